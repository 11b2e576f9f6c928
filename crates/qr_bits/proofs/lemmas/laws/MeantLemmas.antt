-- The characters of segments stand for the input, under its interpretation.
use Rattle.std.proofs.{Common.{◌≡◌, ℕ, ◌+◌, ◌≤◌, true, List, [], ◌∷◌, ◌++◌, length, take, drop, sum_by, Option, None, refl, sym, arith}, Math.Nat.le_refl}
use Rattle.std.proofs.lemmas.{List.Sums.sum_by-cons, List.nil_from_length, List.{take-append-drop, take-append-le, drop-append-le, take_all, drop_all, length-drop}}
use Rattle.qr_bits.specs.declared.{modes.Rule.Rule, segmentation.Segment.Segment, stream.Header.Header, interpretation.Interpretation.Interpretation}
use Rattle.qr_bits.specs.Interpretation.{plain, items_in, ecis_in, fnc1_in, fnc1_of, eci_changes, meant, meant_bytes, are_fields, MayWrite}
use Rattle.qr_bits.specs.{Segmentation.IsLeastSegmentation, Steps.Segmentation.written_in, Parsing.content_of}
use Rattle.qr_bits.proofs.lemmas.{segmentation.CoverLemmas.covers-suits, parsing.FieldLemmas.fields_again}
use Rattle.qr_bits.proofs.lemmas.segmentation.{BackLemmas.sum_by-runs_of, BytesOnlyLemmas.assignment-length, RunLemmas.{runs-written, segments_of}}
use Rattle.qr_bits.proofs.lemmas.interpretation.{meant-plain, ecis-plain, fields-drop, fields-take}

fnc1-plain : (segs : List Segment) → fnc1_of (plain segs) ≡ None
unfolding fnc1_of
fnc1-plain [] = refl
fnc1-plain (s ∷ ss) = refl

-- segments after FNC1 have no ECI
ecis-fnc1 : (segs : List Segment) (n : ℕ) (xs : List ℕ) → eci_changes true n (plain segs) xs ≡ []
unfolding eci_changes
ecis-fnc1 [] n xs = refl
ecis-fnc1 (s ∷ ss) n xs = ecis-fnc1 ss (n + length (meant true s.mode (take s.len xs))) (drop s.len xs)

take-front : (xs ys : List ℕ) → take (length xs) (xs ++ ys) ≡ xs
take-front xs ys = search (arith, take-append-le, le_refl, take_all)

drop-front : (xs ys : List ℕ) → drop (length xs) (xs ++ ys) ≡ ys
drop-front xs ys = search (arith, drop-append-le, le_refl, drop_all)

-- segments of fields are read back
segments-meant : (segs : List Segment) (xs : List ℕ) → are_fields xs ≡ true → length xs ≤ sum_by (λ s. s.len) segs → meant_bytes true (plain (segments_of xs segs)) (written_in xs segs) ≡ xs
unfolding meant_bytes written_in segments_of
segments-meant [] xs h len = sym (nil_from_length xs (omega arith))
segments-meant (s ∷ ss) xs h len =
    search (arith, take-front, drop-front, fields-take, take-append-drop, fields_again, segments-meant ss (drop s.len xs) (fields-drop s.len xs h) (omega (arith, length-drop s.len xs, sum_by-cons (λ (t : Segment). t.len) s ss)))

-- The characters of the least segmentation stand for the input.
pub least-meant : (i : Interpretation) (v : ℕ) (r : Rule) (xs ys : List ℕ) (segs : List Segment) (h : Option Header) → MayWrite i xs → IsLeastSegmentation i v r xs ys segs
    → (content_of h (items_in i segs) ys ≡ record { header = h; items = items_in i segs; ecis = ecis_in i; bytes = xs })
    × (fnc1_of (items_in i segs) ≡ fnc1_in i)
unfolding meant_bytes eci_changes fnc1_of
least-meant i v r xs ys segs h w is = search (arith, covers-suits, meant-plain, ecis-plain, fnc1-plain, assignment-length, ecis-fnc1, runs-written, segments-meant, sum_by-runs_of)
