-- Segments that cover bytes, one after the other.
use Rattle.std.proofs.Common.{Bool, true, ◌≡◌, ℕ, ◌<◌, ◌≤◌, List, [], ◌∷◌, length, take, drop, IsTrue, arith}
use Rattle.std.{proofs.lemmas.List.{take_all, drop_all, Elements.{All-cons, All-nil, All-head, All-tail}}, specs.List.list_all}
use Rattle.qr_bits.specs.declared.{modes.Mode.{Mode, TheVariants.{Numeric, Alphanumeric, Byte, Kanji}}, segmentation.Segment.Segment}
use Rattle.qr_bits.specs.{Modes.{suits, is_digit, is_alphanumeric, in_twos, is_kanji_pair}, Stream.Suits, Segmentation.Covers, Steps.Segmentation.one_segment}

-- the bytes can be written in the mode, where two bytes are a pair if they pass the test
abbrev pub suits_by : (ℕ → ℕ → Bool) → Mode → List ℕ → Bool
suits_by test Numeric xs = list_all is_digit xs
suits_by test Alphanumeric xs = list_all is_alphanumeric xs
suits_by test Byte xs = true
suits_by test Kanji xs = in_twos test xs

-- no segment is empty, and each can write the next part of the bytes, where two bytes are a pair if they pass the test
unfoldable pub CoversBy : (ℕ → ℕ → Bool) → List ℕ → List Segment → Type 0
CoversBy test xs [] = xs ≡ []
CoversBy test xs (s ∷ ss) =
    (0 < s.len) × (s.len ≤ length xs) × IsTrue (suits_by test s.mode (take s.len xs)) × CoversBy test (drop s.len xs) ss

-- segments that cover the bytes cover them one after the other
pub covers-by : (xs : List ℕ) (segs : List Segment) → Covers xs segs → CoversBy is_kanji_pair xs segs
unfolding Covers CoversBy Suits
covers-by xs [] h = h.1
covers-by xs (s ∷ ss) h = search (arith, All-head, All-tail, covers-by (drop s.len xs) ss)

-- segments that cover the bytes one after the other cover them
pub by-covers : (xs : List ℕ) (segs : List Segment) → CoversBy is_kanji_pair xs segs → Covers xs segs
unfolding Covers CoversBy Suits
by-covers xs [] h = search (arith, All-nil)
by-covers xs (s ∷ ss) h = search (arith, All-cons, by-covers (drop s.len xs) ss h.3)

-- as `CoversBy` with the test for kanji pairs; so other crates see it, as do `in-turn` and `from-turn`
unfoldable pub CoversInTurn : List ℕ → List Segment → Type 0
unfolding CoversBy
CoversInTurn xs segs = CoversBy is_kanji_pair xs segs

pub in-turn : (xs : List ℕ) (segs : List Segment) → Covers xs segs → CoversInTurn xs segs
unfolding CoversInTurn
in-turn xs segs h = covers-by xs segs h

pub from-turn : (xs : List ℕ) (segs : List Segment) → CoversInTurn xs segs → Covers xs segs
unfolding CoversInTurn
from-turn xs segs h = by-covers xs segs h

-- segments that cover the bytes suit them
pub covers-suits : (xs : List ℕ) (segs : List Segment) → Covers xs segs → Suits xs segs
unfolding Covers
covers-suits xs segs h = h.1

-- one segment of all bytes covers them if its mode can write them
pub one-covers : (m : Mode) (xs : List ℕ) → IsTrue (suits m xs) → Covers xs (one_segment m (length xs))
unfolding Covers Suits
one-covers m [] h = search (arith, All-nil)
one-covers m (x ∷ xs) h = search (arith, take_all, drop_all, All-nil, All-cons)
