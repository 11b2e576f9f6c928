-- Lists of segments: their bits, their lengths, and what they cover.
use Rattle.std.proofs.Common.{◌≡◌, ℕ, ◌+◌, ◌*◌, ◌<◌, ◌≤◌, ◌↔◌, List, [], ◌∷◌, length, get_or, take, drop, refl, ap, arith, IsTrue, All}
use Rattle.std.{proofs.{lemmas.List.{length-drop, Sums.sum_by-cons, Elements.{All-head, All-tail}}, Math.Seq.drop-cons}, specs.List.sum_by}
use Rattle.qr_bits.proofs.lemmas.segmentation.CoverLemmas.{CoversBy, covers-by, by-covers}
use Rattle.qr_bits.specs.declared.{modes.{Mode.{Mode, TheVariants.Numeric}, Rule.Rule}, interpretation.Interpretation.Interpretation}
use Rattle.qr_bits.specs.{declared.segmentation.Segment.Segment, Stream.Suits, Modes.{count_width, suits}}
use Rattle.qr_bits.specs.Segmentation.{segment_bits, bits, Covers, IsNotAfter, IsLeastSegmentation, HasFit}

segment-most : (v : ℕ) (s : Segment) → 0 < s.len → segment_bits v s ≤ 35 * s.len
segment-most v s h = grind arith

-- what stands past the end of a list of segments
abbrev pub past_end : Segment
past_end = record { mode = Numeric; len = 0 }

-- the bits of the segments from index i on
pub bits-drop : (v : ℕ) (segs : List Segment) (i : ℕ) (d : Segment) → i < length segs → bits v (drop i segs) ≡ segment_bits v (get_or segs i d) + bits v (drop (i + 1) segs)
bits-drop v segs i d h = search (arith, drop-cons)

-- segments that are not empty have no more than 35 bits for each byte
pub bits-most : (v : ℕ) (segs : List Segment) → All (λ s. 0 < s.len) segs → bits v segs ≤ 35 * sum_by (λ s. s.len) segs
bits-most v [] h = omega arith
bits-most v (s ∷ ss) h =
    omega (arith, segment-most v s (All-head (λ (t : Segment). 0 < t.len) s ss h), bits-most v ss (All-tail (λ (t : Segment). 0 < t.len) s ss h), sum_by-cons (λ (t : Segment). t.len) s ss)

suits-length : (xs : List ℕ) (segs : List Segment) → Suits xs segs → sum_by (λ s. s.len) segs ≡ length xs
unfolding Suits
suits-length xs [] h = search arith
suits-length xs (s ∷ ss) h = omega (arith, sum_by-cons (λ (t : Segment). t.len) s ss, suits-length (drop s.len xs) ss h.2, length-drop s.len xs)

-- if segments cover the bytes, no segment is empty, and their lengths add up to the number of bytes
pub covers-all : (xs : List ℕ) (segs : List Segment) → Covers xs segs → All (λ s. 0 < s.len) segs × (sum_by (λ s. s.len) segs ≡ length xs)
unfolding Covers
covers-all xs segs h = (h.0, suits-length xs segs h.1)

-- if the segments from index i on cover the bytes, the first writes its part, and the others cover the other bytes
pub covers-next : (xs : List ℕ) (segs : List Segment) (i : ℕ) (d : Segment) → i < length segs → Covers xs (drop i segs)
    → (0 < (get_or segs i d).len) × ((get_or segs i d).len ≤ length xs) × IsTrue (suits (get_or segs i d).mode (take (get_or segs i d).len xs)) × Covers (drop (get_or segs i d).len xs) (drop (i + 1) segs)
unfolding CoversBy
covers-next xs segs i d h c = search (arith, drop-cons, covers-by, by-covers)

-- a segment that writes its part, and others that cover the other bytes, together cover all bytes
pub next-covers : (xs : List ℕ) (segs : List Segment) (i : ℕ) (d : Segment) → i < length segs
    → 0 < (get_or segs i d).len → (get_or segs i d).len ≤ length xs → IsTrue (suits (get_or segs i d).mode (take (get_or segs i d).len xs)) → Covers (drop (get_or segs i d).len xs) (drop (i + 1) segs)
    → Covers xs (drop i segs)
unfolding CoversBy
next-covers xs segs i d h a b c e = search (arith, by-covers, drop-cons, covers-by)

-- a segment has at least its indicator, its count, and ten bits for three bytes
pub segment-least : (v : ℕ) (s : Segment) → 10 * s.len + 3 * (4 + count_width v s.mode) ≤ 3 * segment_bits v s
segment-least v s = search arith

-- segments have at least ten bits for three bytes
pub bits-least : (v : ℕ) (xs : List ℕ) (ts : List Segment) → Suits xs ts → 10 * length xs ≤ 3 * bits v ts
unfolding Suits
bits-least v xs [] h = omega (arith, ap length h)
bits-least v xs (s ∷ ss) h = search (arith, segment-least, bits-least v (drop s.len xs) ss h.2, length-drop)

-- The segments of the least segmentation cover its characters, and fit exactly if some valid assignment fits.
pub least_fits : (i : Interpretation) (v : ℕ) (r : Rule) (xs ys : List ℕ) (segs : List Segment) → IsLeastSegmentation i v r xs ys segs
    → Covers ys segs × ((n : ℕ) → HasFit i v r xs n ↔ (bits v segs ≤ n))
least_fits i v r xs ys segs h = search arith

-- two assignments of which neither comes after the other are the same
best-one : (ms ks : List Mode) → IsNotAfter ms ks → IsNotAfter ks ms → ms ≡ ks
best-one [] [] a b = refl
best-one [] (k ∷ ks) a b = absurd b
best-one (m ∷ ms) [] a b = absurd a
best-one (m ∷ ms) (k ∷ ks) a b = search (arith, best-one ms ks)

-- There is only one least segmentation.
pub segmentation-one : (i : Interpretation) (v : ℕ) (r : Rule) (xs ys zs : List ℕ) (ss ts : List Segment) → IsLeastSegmentation i v r xs ys ss → IsLeastSegmentation i v r xs zs ts
    → (ys ≡ zs) × (ss ≡ ts)
segmentation-one i v r xs ys zs ss ts a b = search (arith, best-one)
