-- Which segments are chosen for an input. An assignment gives a mode to each byte, and neighbouring bytes with the same
-- mode are one segment. The segment contains the characters that are written for these bytes. Except in GS1 data, the
-- characters are the bytes themselves. An assignment is valid if the rule `r` allows its modes, and the mode of each
-- segment suits its characters.
use Rattle.std.specs.Prelude.{◌≡◌, ℕ, ◌+◌, ◌/◌, ◌<◌, ◌≤◌, ◌⊎◌, if◌then◌else◌, ◌==◌, nat_le, List, [], ◌∷◌, length, take, All, IsTrue}
use Rattle.std.specs.List.{list_all, sum_by}
use Rattle.qr_bits.specs.declared.modes.Mode.{Mode}
use Rattle.qr_bits.specs.declared.modes.Mode.TheVariants.{Numeric, Alphanumeric, Byte, Kanji}
use Rattle.qr_bits.specs.declared.modes.Rule.{Rule}
use Rattle.qr_bits.specs.declared.segmentation.Segment.{Segment}
use Rattle.qr_bits.specs.Modes.{count_width, is_digit, payload_bits, may_use}
use Rattle.qr_bits.specs.Stream.{Suits}
use Rattle.qr_bits.specs.declared.interpretation.Interpretation.{Interpretation}
use Rattle.qr_bits.specs.Interpretation.{characters_in, doubled}

-- How many bits a segment takes in version `v`: its mode indicator, its character count indicator, and its data
-- (ISO/IEC 18004:2015, 7.4.1)
abbrev pub segment_bits : ℕ → Segment → ℕ
segment_bits v s = 4 + count_width v s.mode + payload_bits s.mode s.len

-- How many bits all segments take in version `v`. What comes before the segments (a header, an ECI header or FNC1) does
-- not count (ISO/IEC 18004:2015, 7.4.1)
abbrev pub bits : ℕ → List Segment → ℕ
bits v [] = 0
bits v (s ∷ ss) = segment_bits v s + bits v ss

-- The segments contain exactly the bytes `xs`, the mode of each segment suits its bytes, and no segment is empty [own]
unfoldable pub Covers : List ℕ → List Segment → Type 0
Covers xs segs = All (λ s. 0 < s.len) segs × Suits xs segs

-- The rank of a mode. If two assignments take equally many bits, ranks decide which one is better [own]
abbrev pub rank : Mode → ℕ
rank Numeric = 0
rank Alphanumeric = 1
rank Byte = 2
rank Kanji = 3

-- The segments when one byte of mode `m` is put before them. The byte joins the first segment if this segment has mode
-- `m`, and otherwise is a new segment [own]
abbrev pub prepend_mode : Mode → List Segment → List Segment
prepend_mode m [] = record { mode = m; len = 1 } ∷ []
prepend_mode m (s ∷ ss) = if rank m == rank s.mode then record { mode = m; len = 1 + s.len } ∷ ss else record { mode = m; len = 1 } ∷ s ∷ ss

-- The segments of an assignment: neighbouring bytes of the same mode are one segment [own]
unfoldable pub runs_of : List Mode → List Segment
runs_of [] = []
runs_of (m ∷ ms) = prepend_mode m (runs_of ms)

-- `ms` is a valid assignment to the bytes `xs`: the rule `r` allows its modes, and the mode of each segment suits the
-- characters that are written in it [own]
abbrev pub IsAssignment : Interpretation → Rule → List ℕ → List Mode → Type 0
IsAssignment i r xs ms = IsTrue (list_all (may_use r) ms) × Covers (characters_in i xs ms) (runs_of (doubled i xs ms))

-- The assignment `ms` does not come after `ks` in the lexicographic order by the ranks of the modes [own]
abbrev pub IsNotAfter : List Mode → List Mode → Type 0
IsNotAfter [] ks = Unit {0}
IsNotAfter (m ∷ ms) [] = ⊥
IsNotAfter (m ∷ ms) (k ∷ ks) = (rank m < rank k) ⊎ ((m ≡ k) × IsNotAfter ms ks)

-- `ms` is the best valid assignment to the bytes `xs`. No other valid assignment takes fewer bits in version `v`. Of
-- all that take as few bits, `ms` is the first in lexicographic order by the ranks of the modes [own]
pub record IsBestAssignment (i : Interpretation) (v : ℕ) (r : Rule) (xs : List ℕ) (ms : List Mode) : Type 0 where
  pub assignment : IsAssignment i r xs ms
  pub least : (ks : List Mode) → IsAssignment i r xs ks → bits v (runs_of (doubled i xs ms)) ≤ bits v (runs_of (doubled i xs ks))
  pub first : (ks : List Mode) → IsAssignment i r xs ks → bits v (runs_of (doubled i xs ks)) ≡ bits v (runs_of (doubled i xs ms)) → IsNotAfter ms ks

-- `segs` are the segments of the best valid assignment to the bytes `xs` in version `v`, so no segments for these bytes
-- take fewer bits. `ys` are the characters that the segments contain [own]
abbrev pub IsLeastSegmentation : Interpretation → ℕ → Rule → List ℕ → List ℕ → List Segment → Type 0
IsLeastSegmentation i v r xs ys segs =
    (ms : List Mode) × IsBestAssignment i v r xs ms × (segs ≡ runs_of (doubled i xs ms)) × (ys ≡ characters_in i xs ms)

-- Some valid assignment to the bytes `xs` takes at most `n` bits in version `v` [own]
abbrev pub HasFit : Interpretation → ℕ → Rule → List ℕ → ℕ → Type 0
HasFit i v r xs n = (ms : List Mode) × IsAssignment i r xs ms × (bits v (runs_of (doubled i xs ms)) ≤ n)

-- A lower bound on the bits that a byte takes in any mode, in sixths of a bit. It is 20 for a digit (three digits take
-- 10 bits), 33 for any other byte up to `Z` (two characters take 11 bits), and 39 for a byte above `Z`. Only byte mode
-- and kanji mode can write such a byte, and two of them in kanji mode take 13 bits (ISO/IEC 18004:2015, 7.4.3 to 7.4.6)
abbrev pub least_sixths : ℕ → ℕ
least_sixths b = if is_digit b then 20 else (if nat_le b 90 then 33 else 39)

-- A lower bound on the bits that an input takes, however it is cut into segments. A version that has room for fewer
-- bits need not be tried (ISO/IEC 18004:2015, 7.4.3 to 7.4.6)
unfoldable pub least_bits : List ℕ → ℕ
least_bits xs = sum_by least_sixths xs / 6

-- `n` is the length of the longest prefix of `xs` for which some valid assignment takes at most `room` bits in version
-- `v` [own]
pub record IsLongestFit (i : Interpretation) (v : ℕ) (r : Rule) (xs : List ℕ) (room n : ℕ) : Type 0 where
  pub inside : n ≤ length xs
  pub fits : HasFit i v r (take n xs) room
  pub longest : (k : ℕ) → k ≤ length xs → HasFit i v r (take k xs) room → k ≤ n
