-- If all bytes are digits, one segment of all digits takes the fewest bits.
use Rattle.std.proofs.Common.{◌≡◌, ℕ, zero, suc, ◌+◌, ◌*◌, ◌/◌, ◌<◌, ◌≤◌, true, List, [], ◌∷◌, length, drop, replicate, length-drop, sym, ap, arith, inl, lit<, IsTrue}
use Rattle.std.proofs.lemmas.Bool.Decides.{nat_tests}
use Rattle.qr_bits.specs.{declared.{modes.{Mode.{Mode, TheVariants.Numeric}, Rule.Rule}, segmentation.Segment.Segment}, Steps.Segmentation.one_segment}
use Rattle.qr_bits.specs.{Modes.{is_kanji_pair, suits, may_use, count_width, payload_bits}, declared.interpretation.Interpretation.Interpretation}
use Rattle.qr_bits.specs.{Interpretation.characters_in, Segmentation.{bits, IsNotAfter, IsLeastSegmentation}}
use Rattle.qr_bits.proofs.lemmas.{interpretation.{characters-length, written-digits}, segmentation.BytesOnlyLemmas.assignment-length}
use Rattle.qr_bits.proofs.lemmas.segmentation.{CoverLemmas.{CoversBy, covers-by, one-covers}, BackLemmas.{runs_of-replicate, all-used}}

digits-bits : (n : ℕ) → payload_bits Numeric n ≡ (10 * n + 2) / 3
digits-bits n = grind (arith, nat_tests)

segment-more : (v : ℕ) (m : Mode) (n : ℕ) → 0 < n → 4 + count_width v Numeric + (10 * n + 2) / 3 ≤ 4 + count_width v m + payload_bits m n
segment-more v m n h = grind (arith, nat_tests)

-- any segments take at least as many bits as one segment in numeric mode that has a byte for each of theirs
segments-more-bits : (v : ℕ) (s : Segment) (ss : List Segment) (xs : List ℕ) → CoversBy is_kanji_pair xs (s ∷ ss) → 4 + count_width v Numeric + (10 * length xs + 2) / 3 ≤ bits v (s ∷ ss)
unfolding CoversBy
segments-more-bits v s [] xs c = search (arith, segment-more, length-drop, ap length c.3)
segments-more-bits v s (t ∷ ts) xs c = search (arith, segment-more, length-drop, segments-more-bits v t ts (drop s.len xs) c.3)

digits-fewest : (v : ℕ) (xs : List ℕ) (segs : List Segment) → CoversBy is_kanji_pair xs segs → bits v (one_segment Numeric (length xs)) ≤ bits v segs
unfolding CoversBy
digits-fewest v [] segs c = omega arith
digits-fewest v (x ∷ xs) [] c = search arith
digits-fewest v (x ∷ xs) (s ∷ ss) c = omega (arith, segments-more-bits v s ss (x ∷ xs) c, digits-bits (length (x ∷ xs)))

digits-first : (n : ℕ) (ks : List Mode) → n ≤ length ks → IsNotAfter (replicate n Numeric) ks
digits-first zero ks h = tt
digits-first (suc n) [] h = absurd (omega arith)
digits-first (suc n) (Numeric ∷ ks) h = search (arith, digits-first n ks)
digits-first (suc n) (_ ∷ ks) h = inl (lit< tt)

one_segment-more : (v k n : ℕ) → k ≤ n → bits v (one_segment Numeric k) ≤ bits v (one_segment Numeric n)
one_segment-more v k n h = grind (arith, digits-bits)

-- If all bytes are digits, the one segment of all digits is the least segmentation.
pub digits-least : (i : Interpretation) (v : ℕ) (r : Rule) (xs : List ℕ) → may_use r Numeric ≡ true → IsTrue (suits Numeric xs) → IsLeastSegmentation i v r xs xs (one_segment Numeric (length xs))
digits-least i v r xs u h =
    let written = written-digits i xs (length xs) in (
      replicate (length xs) Numeric,
      record {
        assignment = search (arith, all-used, runs_of-replicate, one-covers);
        least = λ ks k. search (arith, runs_of-replicate, digits-fewest, covers-by, one_segment-more v (length xs) (length (characters_in i xs ks)) (characters-length i xs ks).0);
        first = search (arith, digits-first, assignment-length);
      },
      rw written.1 (sym (runs_of-replicate Numeric (length xs))),
      sym written.0,
    )
