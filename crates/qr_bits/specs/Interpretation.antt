-- How a symbol says what its bytes mean: by ECI headers and FNC1. Like the segments, these are items of the symbol. A
-- segment contains characters, and these stand for the bytes. The characters are the bytes themselves, except in
-- alphanumeric mode after FNC1. The separator is the byte 1D (hexadecimal), which stands between two fields of GS1
-- data. `ms` are the modes of the bytes `xs`.
use Rattle.std.specs.Prelude.{◌≡◌, ℕ, ◌+◌, ◌*◌, ◌/◌, ◌%◌, ◌<◌, Bool, true, false, ◌&&◌, ◌||◌, nat_lt, nat_le, if◌then◌else◌, List, [], ◌∷◌, ◌++◌, map, take, drop, length, ◌==◌, Option, Some, None, IsTrue}
use Rattle.qr_bits.specs.declared.segmentation.Segment.{Segment}
use Rattle.qr_bits.specs.declared.modes.Mode.{Mode}
use Rattle.qr_bits.specs.declared.modes.Mode.TheVariants.{Alphanumeric}
use Rattle.qr_bits.specs.Bits.{field}
use Rattle.qr_bits.specs.declared.interpretation.Interpretation.{Interpretation}
use Rattle.qr_bits.specs.declared.interpretation.Interpretation.TheVariants as written
use Rattle.qr_bits.specs.declared.interpretation.EciChange.{EciChange}
use Rattle.qr_bits.specs.declared.interpretation.Fnc1.{Fnc1}
use Rattle.qr_bits.specs.declared.interpretation.Fnc1.TheVariants.{First, Second}
use Rattle.qr_bits.specs.declared.interpretation.Item.{Item}
use Rattle.qr_bits.specs.declared.interpretation.Item.TheVariants.{Data, Eci, Fnc1First, Fnc1Second}

-- The mode indicator of an ECI header (ISO/IEC 18004:2015, 7.4.1, Table 2)
abbrev pub eci_indicator : ℕ
eci_indicator = 7

-- The mode indicator of FNC1 in first position (ISO/IEC 18004:2015, 7.4.1, Table 2)
abbrev pub fnc1_first_indicator : ℕ
fnc1_first_indicator = 5

-- The mode indicator of FNC1 in second position (ISO/IEC 18004:2015, 7.4.1, Table 2)
abbrev pub fnc1_second_indicator : ℕ
fnc1_second_indicator = 9

-- The number `a` is an application indicator. It is below 100, and then stands for two digits, or it is 100 more than
-- the ASCII code of a letter, and then stands for this letter (ISO/IEC 18004:2015, 7.4.8.3)
abbrev pub is_application_indicator : ℕ → Bool
is_application_indicator a = nat_lt a 100 || nat_le 165 a && nat_le a 190 || nat_le 197 a && nat_le a 222

-- FNC1 may come directly after the given item: the item is an ECI header, and FNC1 was allowed in the place of this
-- header. `may` says whether FNC1 was allowed there (ISO/IEC 18004:2015, 7.4.8.2)
abbrev pub may_follow : Bool → Item → Bool
may_follow may (Eci d) = may
may_follow may _ = false

-- The items of a symbol that has the given segments, and neither an ECI header nor FNC1 [own]
abbrev pub plain : List Segment → List Item
plain segs = map (λ s. Data s) segs

-- The segments among the items [own]
unfoldable pub segments_among : List Item → List Segment
segments_among [] = []
segments_among (Data s ∷ is) = s ∷ segments_among is
segments_among (Eci d ∷ is) = segments_among is
segments_among (Fnc1First ∷ is) = segments_among is
segments_among (Fnc1Second a ∷ is) = segments_among is

-- If an ECI is given, its number has at most six digits (ISO/IEC 18004:2015, 7.4.2)
abbrev pub InterpretationFits : Interpretation → Type 0
InterpretationFits (written.Eci n) = n < 1000000
InterpretationFits _ = Unit {0}

-- How many codewords the shortest designator of the ECI with the number `n` has (ISO/IEC 18004:2015, 7.4.2, Table 4)
abbrev pub designator_codewords : ℕ → ℕ
designator_codewords n = if nat_lt n 128 then 1 else (if nat_lt n 16384 then 2 else 3)

-- The bits of the shortest designator of the ECI with the number `n` (ISO/IEC 18004:2015, 7.4.2, Table 4)
unfoldable pub designator : ℕ → List Bool
designator n =
    if nat_lt n 128 then field 8 n else
    (if nat_lt n 16384 then field 8 (128 + n / 256) ++ field 8 (n % 256) else field 8 (192 + n / 65536) ++ field 16 (n % 65536))

-- The bits that state the interpretation: an ECI header, the mode indicator of FNC1 in first position, or nothing
-- (ISO/IEC 18004:2015, 7.4.2, 7.4.8.2)
unfoldable pub interpretation_stream : Interpretation → List Bool
interpretation_stream written.Default = []
interpretation_stream (written.Eci n) = field 4 eci_indicator ++ designator n
interpretation_stream written.Gs1 = field 4 fnc1_first_indicator

-- The number of bits that state the interpretation. These are the bits of an ECI header, those of the mode indicator of
-- FNC1, or none (ISO/IEC 18004:2015, 7.4.2, 7.4.8.2)
abbrev pub interpretation_bits : Interpretation → ℕ
interpretation_bits written.Default = 0
interpretation_bits (written.Eci n) = 4 + 8 * designator_codewords n
interpretation_bits written.Gs1 = 4

-- The items of a symbol that has the given interpretation and segments: an ECI header, FNC1 in first position, or
-- neither, and then the segments (ISO/IEC 18004:2015, 7.4.2, 7.4.8.2)
abbrev pub items_in : Interpretation → List Segment → List Item
items_in written.Default segs = plain segs
items_in (written.Eci n) segs = Eci (record { number = n; codewords = designator_codewords n }) ∷ plain segs
items_in written.Gs1 segs = Fnc1First ∷ plain segs

-- The ASCII codes of `%` and of the character that separates fields (ISO/IEC 18004:2015, 7.4.8.2)
abbrev pub percent : ℕ
percent = 37

abbrev pub separator : ℕ
separator = 0x1D

-- The bytes that characters of alphanumeric mode stand for after FNC1. From left to right, each `%%` stands for `%`,
-- and any other `%` for the separator (ISO/IEC 18004:2015, 7.4.8.2)
unfoldable pub separated : List ℕ → List ℕ
separated [] = []
separated (x ∷ []) = if x == percent then separator ∷ [] else x ∷ []
separated (x ∷ y ∷ xs) =
    if x == percent then (if y == percent then percent ∷ separated xs else separator ∷ separated (y ∷ xs)) else x ∷ separated (y ∷ xs)

-- The characters that alphanumeric mode writes for bytes after FNC1: `%%` for `%`, and `%` for the separator (ISO/IEC
-- 18004:2015, 7.4.8.2)
unfoldable pub escaped : List ℕ → List ℕ
escaped [] = []
escaped (x ∷ xs) = if x == percent then percent ∷ percent ∷ escaped xs else (if x == separator then percent ∷ escaped xs else x ∷ escaped xs)

-- The bytes can be written as fields of GS1 data: no separator comes directly before another separator or before `%`.
-- Alphanumeric mode writes a separator as `%`, and two `%` in a row would be read as the byte `%` [own]
unfoldable pub are_fields : List ℕ → Bool
are_fields [] = true
are_fields (x ∷ []) = true
are_fields (x ∷ y ∷ xs) = (if x == separator then (if y == separator then false else (if y == percent then false else true)) else true) && are_fields (y ∷ xs)

-- The byte `x` is written as two characters in the given mode. This is so only for `%` in alphanumeric mode after FNC1
-- (ISO/IEC 18004:2015, 7.4.8.2)
abbrev pub is_doubled : Interpretation → ℕ → Mode → Bool
is_doubled written.Gs1 x Alphanumeric = x == percent
is_doubled _ x m = false

-- The character that is written for the byte `x` in the given mode. `is_doubled` says whether this character is written
-- once or twice. The character is the byte itself, except that alphanumeric mode after FNC1 writes `%` for the
-- separator (ISO/IEC 18004:2015, 7.4.8.2)
abbrev pub character_for : Interpretation → ℕ → Mode → ℕ
character_for written.Gs1 x Alphanumeric = if x == separator then percent else x
character_for _ x m = x

-- The first list has the bytes of GS1 data, and the second a mode for each of them. The result has a mode for each
-- character that is written for these bytes after FNC1 in first position. For a byte that becomes two characters, its
-- mode is listed twice (ISO/IEC 18004:2015, 7.4.8.2)
unfoldable pub doubled_gs1 : List ℕ → List Mode → List Mode
doubled_gs1 [] ms = ms
doubled_gs1 (x ∷ xs) [] = []
doubled_gs1 (x ∷ xs) (m ∷ ms) = if is_doubled written.Gs1 x m then m ∷ m ∷ doubled_gs1 xs ms else m ∷ doubled_gs1 xs ms

-- The first list has the bytes of GS1 data, and the second a mode for each of them. The result has the characters that
-- are written for these bytes after FNC1 in first position (ISO/IEC 18004:2015, 7.4.8.2)
unfoldable pub characters_gs1 : List ℕ → List Mode → List ℕ
characters_gs1 [] ms = []
characters_gs1 (x ∷ xs) [] = x ∷ xs
characters_gs1 (x ∷ xs) (m ∷ ms) =
    let c = character_for written.Gs1 x m in
    if is_doubled written.Gs1 x m then c ∷ c ∷ characters_gs1 xs ms else c ∷ characters_gs1 xs ms

-- `ms` has a mode for each of the bytes `xs`. The result has a mode for each character that is written for these bytes
-- under an interpretation. For a byte that becomes two characters, its mode is listed twice (ISO/IEC 18004:2015,
-- 7.4.8.2)
abbrev pub doubled : Interpretation → List ℕ → List Mode → List Mode
doubled written.Default xs ms = ms
doubled (written.Eci n) xs ms = ms
doubled written.Gs1 xs ms = doubled_gs1 xs ms

-- The characters that are written for the bytes `xs`, whose modes are `ms`, under an interpretation (ISO/IEC
-- 18004:2015, 7.4.8.2)
abbrev pub characters_in : Interpretation → List ℕ → List Mode → List ℕ
characters_in written.Default xs ms = xs
characters_in (written.Eci n) xs ms = xs
characters_in written.Gs1 xs ms = characters_gs1 xs ms

-- The bytes `xs` can be written with the given interpretation. GS1 data can be written if no separator comes directly
-- before another separator or before `%`. All other data can be written (ISO/IEC 18004:2015, 7.4.8.2)
abbrev pub MayWrite : Interpretation → List ℕ → Type 0
MayWrite written.Gs1 xs = IsTrue (are_fields xs)
MayWrite _ xs = Unit {0}

-- Kanji mode may be allowed with this interpretation: it has no ECI, or ECI 20, which is Shift JIS. Readers take each
-- kanji pair for Shift JIS. Under another ECI, two bytes that are not one character could look like a kanji pair [own]
abbrev pub MayAllowKanji : Interpretation → Type 0
MayAllowKanji (written.Eci n) = n ≡ 20
MayAllowKanji _ = Unit {0}

-- The bytes that the characters of a segment stand for. The first argument says whether FNC1 came before the segment.
-- The bytes differ from the characters only in alphanumeric mode after FNC1 (ISO/IEC 18004:2015, 7.4.8.2, 7.4.8.3)
abbrev pub meant : Bool → Mode → List ℕ → List ℕ
meant true Alphanumeric xs = separated xs
meant _ _ xs = xs

-- The bytes that the items stand for. Each segment takes the next of the characters `xs`. `fnc1` says whether FNC1 came
-- before the items (ISO/IEC 18004:2015, 7.4.8.2, 7.4.8.3)
unfoldable pub meant_bytes : Bool → List Item → List ℕ → List ℕ
meant_bytes fnc1 [] xs = []
meant_bytes fnc1 (Data s ∷ is) xs = meant fnc1 s.mode (take s.len xs) ++ meant_bytes fnc1 is (drop s.len xs)
meant_bytes fnc1 (Eci d ∷ is) xs = meant_bytes fnc1 is xs
meant_bytes fnc1 (Fnc1First ∷ is) xs = meant_bytes true is xs
meant_bytes fnc1 (Fnc1Second a ∷ is) xs = meant_bytes true is xs

-- The ECI headers among the items, each with the number of bytes that the symbol has before this header. What comes
-- before all items is given: `n` bytes, and FNC1 if `fnc1` is true. Each segment takes the next of the characters `xs`
-- (ISO/IEC 18004:2015, 7.4.2.2)
unfoldable pub eci_changes : Bool → ℕ → List Item → List ℕ → List EciChange
eci_changes fnc1 n [] xs = []
eci_changes fnc1 n (Data s ∷ is) xs = eci_changes fnc1 (n + length (meant fnc1 s.mode (take s.len xs))) is (drop s.len xs)
eci_changes fnc1 n (Eci d ∷ is) xs = record { number = d.number; begin = n } ∷ eci_changes fnc1 n is xs
eci_changes fnc1 n (Fnc1First ∷ is) xs = eci_changes true n is xs
eci_changes fnc1 n (Fnc1Second a ∷ is) xs = eci_changes true n is xs

-- FNC1, if it is among the items and only ECI headers come before it. If there is no FNC1, or a segment comes before
-- it, the value is `None` (ISO/IEC 18004:2015, 7.4.8)
unfoldable pub fnc1_of : List Item → Option Fnc1
fnc1_of [] = None
fnc1_of (Data s ∷ is) = None
fnc1_of (Eci d ∷ is) = fnc1_of is
fnc1_of (Fnc1First ∷ is) = Some First
fnc1_of (Fnc1Second a ∷ is) = Some (Second a)

-- The ECI headers that are read from a symbol with the given interpretation: one if the interpretation is an ECI, and
-- otherwise none (ISO/IEC 18004:2015, 7.4.2)
abbrev pub ecis_in : Interpretation → List EciChange
ecis_in (written.Eci n) = record { number = n; begin = 0 } ∷ []
ecis_in _ = []

-- The FNC1 that is read from a symbol with the given interpretation: FNC1 in first position for GS1 data, and otherwise
-- none (ISO/IEC 18004:2015, 7.4.8.2)
abbrev pub fnc1_in : Interpretation → Option Fnc1
fnc1_in written.Gs1 = Some First
fnc1_in _ = None
