-- The data codewords of a symbol: a bit stream, its terminator and padding.
use Rattle.std.specs.Prelude.{◌≡◌, ℕ, ◌*◌, ◌/◌, ◌%◌, ◌<◌, ◌≤◌, Bool, false, List, [], ◌∷◌, length, ◌-◌, ◌++◌, All, Option, zero, suc, min, replicate}
use Rattle.qr_bits.specs.declared.segmentation.Segment.{Segment}
use Rattle.qr_bits.specs.declared.stream.Header.{Header}
use Rattle.qr_bits.specs.declared.interpretation.Interpretation.{Interpretation}
use Rattle.qr_bits.specs.Bits.{bits_of}
use Rattle.qr_layout.specs.declared.level.Level.{Level}
pub use Rattle.qr_layout.specs.Blocks.{capacity_of}
use Rattle.qr_layout.specs.Blocks.{data_codewords_of}
use Rattle.qr_bits.specs.Stream.{IsStream}
use Rattle.qr_bits.specs.Interpretation.{interpretation_bits}

-- How many bits of the capacity are left for the segments after a structured append header, which takes 20 bits, and
-- the ECI header or FNC1 of the interpretation (ISO/IEC 18004:2015, 7.4.2, 7.4.8.2, 7.4.10, 8.1)
abbrev pub room_of : ℕ → Level → Interpretation → ℕ
room_of v l i = capacity_of v l - 20 - interpretation_bits i

-- The stream and its terminator. The terminator is four zero bits, or fewer if the capacity has no room for four
-- (ISO/IEC 18004:2015, 7.4.9)
abbrev pub terminated : ℕ → List Bool → List Bool
terminated capacity stream = stream ++ replicate (min 4 (capacity - length stream)) false

-- The stream, followed by as many zero bits as its last codeword needs to have 8 bits (ISO/IEC 18004:2015, 7.4.10)
abbrev pub filled : List Bool → List Bool
filled stream = stream ++ replicate ((8 - length stream % 8) % 8) false

-- A list of pad codewords. The argument says how many there are. They are EC and 11 (hexadecimal) in turn (ISO/IEC
-- 18004:2015, 7.4.10)
unfoldable pub pads : ℕ → List ℕ
pads zero = []
pads (suc zero) = 0xEC ∷ []
pads (suc (suc n)) = 0xEC ∷ 0x11 ∷ pads n

-- The bits of `n` data codewords: the bit stream, its terminator, zeros up to the end of a codeword, and pad codewords
-- (ISO/IEC 18004:2015, 7.4.9, 7.4.10)
unfoldable pub padded : ℕ → List Bool → List Bool
padded n stream =
    let whole = filled (terminated (8 * n) stream) in
    whole ++ bits_of (pads (n - length whole / 8))

-- `cw` are the data codewords of version `v` and level `l`. They contain the optional header `h`, the ECI header or
-- FNC1 of the interpretation `i`, and the bytes `xs` in the segments `segs` (ISO/IEC 18004:2015, 7.4.10)
pub record IsData (v : ℕ) (l : Level) (xs : List ℕ) (segs : List Segment) (h : Option Header) (i : Interpretation) (cw : List ℕ) : Type 0 where
  pub stream : List Bool
  pub is_stream : IsStream v xs segs h i stream
  pub fits : length stream ≤ capacity_of v l
  pub bytes : All (λ b. b < 256) cw
  pub codewords : bits_of cw ≡ padded (data_codewords_of v l) stream
