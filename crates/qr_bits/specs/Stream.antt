-- How bits are written: the bit stream of segments, and the bits of all items. The file `Parsing` says how bits are
-- read, and uses nothing of this file. So writing and reading are defined separately, and laws say that they agree. `v`
-- is the version, and `xs` are the bytes that are still to be written.
use Rattle.std.specs.Prelude.{◌≡◌, ◌⊎◌, ℕ, ◌+◌, ◌*◌, ◌/◌, ◌%◌, ◌<◌, ◌≤◌, Bool, true, false, ◌==◌, if◌then◌else◌, List, [], ◌∷◌, length, take, drop, IsTrue, ◌-◌, ◌^◌, ◌++◌, All, Option}
use Rattle.qr_bits.specs.declared.modes.Mode.{Mode}
use Rattle.qr_bits.specs.declared.modes.Mode.TheVariants.{Numeric, Alphanumeric, Byte, Kanji}
use Rattle.qr_bits.specs.declared.segmentation.Segment.{Segment}
use Rattle.qr_bits.specs.declared.stream.Header.{Header}
use Rattle.qr_bits.specs.Bits.{field, bits_of}
use Rattle.qr_bits.specs.Modes.{character_count, count_width, suits, indicator, character_value, kanji_value}
use Rattle.qr_bits.specs.Header.{header_stream, HeaderFits}
use Rattle.qr_bits.specs.declared.interpretation.Interpretation.{Interpretation}
use Rattle.qr_bits.specs.declared.interpretation.Designator.{Designator}
use Rattle.qr_bits.specs.declared.interpretation.Item.{Item}
use Rattle.qr_bits.specs.declared.interpretation.Item.TheVariants.{Data, Eci, Fnc1First, Fnc1Second}
use Rattle.qr_bits.specs.Interpretation.{eci_indicator, fnc1_first_indicator, fnc1_second_indicator, interpretation_stream, InterpretationFits, is_application_indicator}

-- The bits of digits in numeric mode: 10 bits for each group of three digits, and 7 bits for two digits or 4 bits for
-- one digit at the end (ISO/IEC 18004:2015, 7.4.3)
unfoldable pub digit_bits : List ℕ → List Bool
digit_bits [] = []
digit_bits (a ∷ []) = field 4 (a - 48)
digit_bits (a ∷ b ∷ []) = field 7 (10 * (a - 48) + (b - 48))
digit_bits (a ∷ b ∷ c ∷ xs) = field 10 (100 * (a - 48) + 10 * (b - 48) + (c - 48)) ++ digit_bits xs

-- The bits of characters in alphanumeric mode: 11 bits for each two characters, and 6 bits for a single one at the end
-- (ISO/IEC 18004:2015, 7.4.4)
unfoldable pub character_bits : List ℕ → List Bool
character_bits [] = []
character_bits (a ∷ []) = field 6 (character_value a)
character_bits (a ∷ b ∷ xs) = field 11 (45 * character_value a + character_value b) ++ character_bits xs

-- The bits of kanji pairs in kanji mode: 13 for each pair (ISO/IEC 18004:2015, 7.4.6)
unfoldable pub kanji_bits : List ℕ → List Bool
kanji_bits [] = []
kanji_bits (a ∷ []) = []
kanji_bits (a ∷ b ∷ xs) = field 13 (kanji_value a b) ++ kanji_bits xs

-- The bits of the data of a segment with the given mode and the bytes `xs` (ISO/IEC 18004:2015, 7.4.3 to 7.4.6)
unfoldable pub payload : Mode → List ℕ → List Bool
payload Numeric xs = digit_bits xs
payload Alphanumeric xs = character_bits xs
payload Byte xs = bits_of xs
payload Kanji xs = kanji_bits xs

-- The bits of a segment: its mode indicator, its character count indicator, and its data (ISO/IEC 18004:2015, 7.4.1)
unfoldable pub segment_stream : ℕ → Mode → List ℕ → List Bool
segment_stream v m xs = field 4 (indicator m) ++ (field (count_width v m) (character_count m (length xs)) ++ payload m xs)

-- The bits of the segments, one segment after the other. Each segment takes the next bytes of `xs` (ISO/IEC 18004:2015,
-- 7.4.1)
unfoldable pub segments_stream : ℕ → List ℕ → List Segment → List Bool
segments_stream v xs [] = []
segments_stream v xs (s ∷ ss) = segment_stream v s.mode (take s.len xs) ++ segments_stream v (drop s.len xs) ss

-- The segments contain exactly the bytes `xs`, and the mode of each segment suits its bytes. A segment may be empty
-- [own]
unfoldable pub Suits : List ℕ → List Segment → Type 0
Suits xs [] = xs ≡ []
Suits xs (s ∷ ss) = (s.len ≤ length xs) × IsTrue (suits s.mode (take s.len xs)) × Suits (drop s.len xs) ss

-- The number of characters of each segment fits its character count indicator (ISO/IEC 18004:2015, 7.4.1, Table 3)
unfoldable pub CountsFit : ℕ → List Segment → Type 0
CountsFit v [] = Unit {0}
CountsFit v (s ∷ ss) = (character_count s.mode s.len < 2 ^ count_width v s.mode) × CountsFit v ss

-- `stream` is the bit stream of a symbol: the optional header `h`, the ECI header or FNC1 of the interpretation `i`,
-- and the bytes `xs` in the segments `segs` (ISO/IEC 18004:2015, 7.4.1, 8.1)
pub record IsStream (v : ℕ) (xs : List ℕ) (segs : List Segment) (h : Option Header) (i : Interpretation) (stream : List Bool) : Type 0 where
  pub bytes : All (λ b. b < 256) xs
  pub suit : Suits xs segs
  pub counts : CountsFit v segs
  pub header : HeaderFits h
  pub interpretation : InterpretationFits i
  pub whole : stream ≡ (header_stream h ++ interpretation_stream i) ++ segments_stream v xs segs

-- The number of the ECI is small enough to be written in as many codewords as its designator has (ISO/IEC 18004:2015,
-- 7.4.2, Table 4)
abbrev pub DesignatorFits : Designator → Type 0
DesignatorFits d =
    ((d.codewords ≡ 1) × (d.number < 128)) ⊎ (((d.codewords ≡ 2) × (d.number < 16384)) ⊎ ((d.codewords ≡ 3) × (d.number < 1000000)))

-- The bits of the number `n` of an ECI, written in `w` codewords (ISO/IEC 18004:2015, 7.4.2, Table 4)
unfoldable pub designator_of : ℕ → ℕ → List Bool
designator_of w n =
    if w == 1 then field 8 n else
    (if w == 2 then field 8 (128 + n / 256) ++ field 8 (n % 256) else field 8 (192 + n / 65536) ++ field 16 (n % 65536))

-- The bits of the items, one item after the other. Each segment among them takes the next bytes of `xs` (ISO/IEC
-- 18004:2015, 7.4.1)
unfoldable pub items_stream : ℕ → List ℕ → List Item → List Bool
items_stream v xs [] = []
items_stream v xs (Data s ∷ is) = segment_stream v s.mode (take s.len xs) ++ items_stream v (drop s.len xs) is
items_stream v xs (Eci d ∷ is) = field 4 eci_indicator ++ (designator_of d.codewords d.number ++ items_stream v xs is)
items_stream v xs (Fnc1First ∷ is) = field 4 fnc1_first_indicator ++ items_stream v xs is
items_stream v xs (Fnc1Second a ∷ is) = field 4 fnc1_second_indicator ++ (field 8 a ++ items_stream v xs is)

-- The items can be written for the bytes `xs`. The segments among the items contain exactly these bytes. The mode of
-- each segment suits its bytes, and its number of characters fits its character count indicator. Each designator is
-- long enough for its ECI. Before FNC1 there are only ECI headers, and `may` says whether FNC1 is allowed among these
-- items. FNC1 in second position has an application indicator (ISO/IEC 18004:2015, 7.4.8.2)
unfoldable pub AreItems : ℕ → Bool → List ℕ → List Item → Type 0
AreItems v may xs [] = xs ≡ []
AreItems v may xs (Data s ∷ is) =
    (s.len ≤ length xs) × IsTrue (suits s.mode (take s.len xs)) × (character_count s.mode s.len < 2 ^ count_width v s.mode)
    × AreItems v false (drop s.len xs) is
AreItems v may xs (Eci d ∷ is) = DesignatorFits d × AreItems v may xs is
AreItems v may xs (Fnc1First ∷ is) = (may ≡ true) × AreItems v false xs is
AreItems v may xs (Fnc1Second a ∷ is) = (may ≡ true) × IsTrue (is_application_indicator a) × AreItems v false xs is
