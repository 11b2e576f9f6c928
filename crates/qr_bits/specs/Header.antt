-- The structured append header, with which the data of each symbol of a series begin.
use Rattle.std.specs.Prelude.{ℕ, ◌<◌, Bool, List, [], ◌++◌, Option, bit_xor, fold}
use Rattle.std.specs.Option.{ForSome, option_map_or}
use Rattle.qr_bits.specs.declared.stream.Header.{Header}
use Rattle.qr_bits.specs.Bits.{field}

-- The mode indicator of structured append (ISO/IEC 18004:2015, 7.4.1, Table 2)
abbrev pub header_indicator : ℕ
header_indicator = 3

-- The number of bits of a header, which is 20, or 0 if there is no header (ISO/IEC 18004:2015, 8.1)
abbrev pub header_bits : Option Header → ℕ
header_bits header = option_map_or (λ _. 20) header 0

-- If there is a header, each of its numbers fits its field: `position` and `last` fit 4 bits, and `parity` fits 8
-- (ISO/IEC 18004:2015, 8.2, 8.3)
abbrev pub HeaderFits : Option Header → Type 0
HeaderFits header = ForSome header (λ h. (h.position < 16) × (h.last < 16) × (h.parity < 256))

-- The bits of a header, if there is one: its mode indicator, the position of the symbol, the number of symbols less 1,
-- and the parity data (ISO/IEC 18004:2015, 8.1 to 8.3)
unfoldable pub header_stream : Option Header → List Bool
header_stream header = option_map_or (λ h. field 4 header_indicator ++ (field 4 h.position ++ (field 4 h.last ++ field 8 h.parity))) header []

-- The parity data: the exclusive or of all bytes of the input, after it was folded and before it is cut into parts
-- (ISO/IEC 18004:2015, 8.3)
abbrev pub parity_of : List ℕ → ℕ
parity_of bs = fold bit_xor 0 bs
