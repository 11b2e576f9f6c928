-- How a square `g` is read as a symbol. `v` is its version, `l` its level, and `mask` its mask. Nothing here uses
-- `grid_of`, by which symbols are drawn. So reading and drawing are stated apart, and laws say that they agree.
use Rattle.std.specs.Prelude.{◌≡◌, ◌≢◌, ℕ, ◌-◌, ◌*◌, ◌<◌, ◌≤◌, Bool, false, List, ◌++◌, map, take, length, replicate, Option, Result, Ok, Err, None}
use Rattle.std.specs.List.{All}
use Rattle.qr_layout.specs.declared.level.Level.{Level}
use Rattle.qr_layout.specs.declared.region.Module.{Module}
use Rattle.qr_layout.specs.Version.{side_of, total_codewords_of}
use Rattle.qr_layout.specs.Blocks.{data_codewords_of}
use Rattle.qr_layout.specs.Format.{format_word_of}
use Rattle.qr_layout.specs.Order.{IsOrder}
use Rattle.qr_layout.specs.Format.{first_place}
use Rattle.qr_bits.specs.declared.modes.Rule.{Rule}
use Rattle.qr_bits.specs.declared.segmentation.Segment.{Segment}
use Rattle.qr_bits.specs.Segmentation.{IsLeastSegmentation}
use Rattle.qr_bits.specs.Bits.{bits_of}
use Rattle.qr_bits.specs.Parsing.{Content, parse}
use Rattle.qr_bits.specs.Interpretation.{ecis_in, fnc1_in, fnc1_of, items_in}
use Rattle.qr_bits.specs.declared.stream.Header.{Header}
use Rattle.qr_bits.specs.declared.interpretation.Interpretation.{Interpretation}
use Rattle.qr_bits.specs.declared.fault.ParseFault.{ParseFault}
use Rattle.qr_bits.specs.declared.fault.ParseFault.TheVariants as unparsed
use Rattle.qr_symbol.specs.declared.fault.ReadFault.{ReadFault}
use Rattle.qr_symbol.specs.declared.fault.ReadFault.TheVariants as unread
use Rattle.qr_matrix.specs.Grid.{Grid, colour}
use Rattle.qr_symbol.specs.Mask.{inverts, inverted}
use Rattle.qr_matrix.specs.BitRow.{has_bit}
use Rattle.qr_symbol.specs.Interleaving.{IsInterleaved}

-- The colour that module `m` had before the mask was applied: its colour in `g`, changed to the other colour if the
-- mask inverts it (ISO/IEC 18004:2015, 12)
abbrev pub unmasked : ℕ → Grid → Module → Bool
unmasked mask g m = inverted (inverts mask m.row m.col) (colour g m.row m.col)

-- The bits of all codewords of version `v`, read from the modules `ms` in turn. Each bit is the colour of a module with
-- the mask undone, where `true` is dark. Modules that come after those of the last codeword are left out. If there are
-- too few modules, the bits that are missing are `false` (ISO/IEC 18004:2015, 7.7.3, 12)
abbrev pub read_bits : ℕ → ℕ → Grid → List Module → List Bool
read_bits v mask g ms = map (unmasked mask g) (take (8 * total_codewords_of v) ms) ++ replicate (8 * total_codewords_of v - length ms) false

-- `cw` are the codewords in the region of the square `g`, read in the standard's order with the mask undone (ISO/IEC
-- 18004:2015, 7.7.3, 12)
pub record IsRead (v mask : ℕ) (g : Grid) (cw : List ℕ) : Type 0 where
  pub bytes : All (λ x. x < 256) cw
  pub places : List Module
  pub order : IsOrder v places
  pub bits : bits_of cw ≡ read_bits v mask g places

-- `cw` are the codewords that the region of the square `g` contains, read in the standard's order. No mask is undone
-- here, because `g` has none: it is a square whose mask was undone before, or a square that is dark exactly where a
-- module of a symbol was not read (ISO/IEC 18004:2015, 7.7.3)
pub record IsReadUnmasked (v : ℕ) (g : Grid) (cw : List ℕ) : Type 0 where
  pub bytes : All (λ x. x < 256) cw
  pub places : List Module
  pub order : IsOrder v places
  pub bits : bits_of cw ≡ map (λ m. colour g m.row m.col) (take (8 * total_codewords_of v) places)

-- The square `g` contains the final sequence of the data codewords `d`, drawn under the mask `mask` (ISO/IEC
-- 18004:2015, 7.6, 12)
pub record IsMessage (v : ℕ) (l : Level) (mask : ℕ) (g : Grid) (d : List ℕ) : Type 0 where
  pub codewords : List ℕ
  pub read : IsRead v mask g codewords
  pub many : length d ≡ data_codewords_of v l
  pub interleaved : IsInterleaved v l d codewords

-- Bit `i` of the format information beside the top left finder pattern, where bit 0 is the lowest (ISO/IEC 18004:2015,
-- 7.9.1)
abbrev pub format_bit : Grid → ℕ → Bool
format_bit g i = colour g (first_place i).row (first_place i).col

-- All 15 bits of the format information beside the top left finder pattern are those of level `l` and mask `mask`
-- (ISO/IEC 18004:2015, 7.9.1, 12)
pub record IsFormat (g : Grid) (l : Level) (mask : ℕ) : Type 0 where
  pub in_range : mask < 8
  pub bits : (i : ℕ) → i < 15 → format_bit g i ≡ has_bit (format_word_of l mask) i

-- The square has the side of version `v`, and `v` is from 1 to 40 (ISO/IEC 18004:2015, 6.3.2, 12)
pub record IsOfVersion (g : Grid) (v : ℕ) : Type 0 where
  pub least : 1 ≤ v
  pub most : v ≤ 40
  pub side : g.side ≡ side_of v

-- The square `g` has the side of some version, and the format information of some level and mask. The codewords of the
-- square are the final sequence of some data codewords. Parsing these data codewords yields `outcome`, which is a
-- content or a fault (ISO/IEC 18004:2015, 12)
pub record IsParsedAs (g : Grid) (outcome : Result Content ParseFault) : Type 0 where
  pub version : ℕ
  pub level : Level
  pub mask : ℕ
  pub message : List ℕ
  pub sized : IsOfVersion g version
  pub format : IsFormat g level mask
  pub holds : IsMessage version level mask g message
  pub parsed : parse version (bits_of message) ≡ outcome

-- The square `g` is read as `content`: its data codewords can be parsed, and `content` is what they mean (ISO/IEC
-- 18004:2015, 12)
abbrev pub IsReading : Grid → Content → Type 0
IsReading g content = IsParsedAs g (Ok content)

-- The content that has to be read from a symbol. Its header is `h`, if there is one. Its items are the ECI header or
-- FNC1 of the interpretation `i`, and then the segments. Its bytes are `x`, for which the characters of the segments
-- stand (ISO/IEC 18004:2015, 7.4.2, 7.4.8.2)
abbrev pub interpreted_content : Interpretation → Option Header → List Segment → List ℕ → Content
interpreted_content i h segments x = record { header = h; items = items_in i segments; ecis = ecis_in i; bytes = x }

-- The ECI headers and FNC1 in the content `c` are those of the interpretation `i`, and no others (ISO/IEC 18004:2015,
-- 7.4.2, 7.4.8.2)
abbrev pub IsInterpreted : Interpretation → Content → Type 0
IsInterpreted i c = (c.ecis ≡ ecis_in i) × (fnc1_of c.items ≡ fnc1_in i)

-- The square `g` is read as the bytes `x` with the interpretation `i`, without a structured append header. The segments
-- that are read are those of fewest bits for `x` in version `v`, in the modes that `rule` allows (ISO/IEC 18004:2015,
-- 12)
abbrev pub IsReadBack : ℕ → Rule → Interpretation → List ℕ → Grid → Type 0
IsReadBack v rule i x g = (segments : List Segment) × (characters : List ℕ) × IsLeastSegmentation i v rule x characters segments
    × IsReading g (interpreted_content i None segments x)

-- Reading the square `g` may fail with the given fault. `Memory` is always possible, and `Series` never. Of the other
-- faults at most one applies: `Side` if no version has the side of `g`; otherwise `Format` if the format information
-- belongs to no level and mask; otherwise `Check` if the codewords are not the final sequence of any data codewords;
-- otherwise `Segments` if the data codewords cannot be parsed (ISO/IEC 18004:2015, 12)
abbrev pub IsUnread : Grid → ReadFault → Type 0
IsUnread g unread.Memory = Unit {0}
IsUnread g unread.Side = (v : ℕ) → IsOfVersion g v → ⊥
IsUnread g unread.Format = (v : ℕ) × IsOfVersion g v × ((l : Level) (mask : ℕ) → IsFormat g l mask → ⊥)
IsUnread g unread.Check = (v : ℕ) × IsOfVersion g v × (l : Level) × (mask : ℕ) × IsFormat g l mask × ((d : List ℕ) → IsMessage v l mask g d → ⊥)
IsUnread g (unread.Segments e) = (e ≢ unparsed.Memory) × IsParsedAs g (Err e)
IsUnread g unread.Series = ⊥
