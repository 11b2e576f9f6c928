-- What is written for runs of bytes in GS1 data.
use Rattle.std.{proofs.Common.{◌≡◌, ℕ, ◌+◌, true, cond, List, [], ◌∷◌, length, map, take, drop, refl, arith, suc}, specs.List.list_all}
use Rattle.std.proofs.lemmas.Bool.{and_parts, cond_both, eqb-true}
use Rattle.qr_bits.specs.declared.{modes.Mode.Mode, segmentation.Segment.Segment, interpretation.Interpretation.TheVariants.Gs1}
use Rattle.qr_bits.{specs.Interpretation.{escaped, is_doubled, character_for, characters_gs1, doubled_gs1}, proofs.lemmas.run_state.BestLemmas.same-rank}
use Rattle.qr_bits.specs.{Segmentation.{prepend_mode, runs_of}, Steps.Segmentation.{written_in, is_single, marked, written}}

-- without `%` each byte is written as one character
pub escaped-marked : (xs : List ℕ) → list_all is_single xs ≡ true → escaped xs ≡ map marked xs
unfolding escaped
escaped-marked [] h = refl
escaped-marked (x ∷ xs) h = search (arith, eqb-true, escaped-marked xs (and_parts (is_single x) (list_all is_single xs) h).1)

-- the segments that are written for segments of bytes: their lengths count characters
unfoldable pub segments_of : List ℕ → List Segment → List Segment
segments_of xs [] = []
segments_of xs (s ∷ ss) = record { mode = s.mode; len = length (written s.mode (take s.len xs)) } ∷ segments_of (drop s.len xs) ss

one-suc : (n : ℕ) → 1 + n ≡ suc n
one-suc n = omega arith

written-one : (m : Mode) (x : ℕ) → written m (x ∷ []) ≡ cond (is_doubled Gs1 x m) (character_for Gs1 x m ∷ character_for Gs1 x m ∷ []) (character_for Gs1 x m ∷ [])
unfolding escaped
written-one m x = search (arith, eqb-true)

prepend-self : (m : Mode) (n : ℕ) (ss : List Segment) → prepend_mode m (record { mode = m; len = n } ∷ ss) ≡ record { mode = m; len = 1 + n } ∷ ss
prepend-self m n ss = grind arith

-- a byte that begins a segment gives it one character, or two if the byte is doubled
segments-begun : (m : Mode) (x : ℕ) (xs : List ℕ) (ss : List Segment)
    → segments_of (x ∷ xs) (record { mode = m; len = 1 } ∷ ss) ≡ cond (is_doubled Gs1 x m) (prepend_mode m (record { mode = m; len = 1 } ∷ segments_of xs ss)) (record { mode = m; len = 1 } ∷ segments_of xs ss)
unfolding segments_of
segments-begun m x xs ss = search (arith, written-one, prepend-self)

-- the characters and segments of an assignment are those of its runs of bytes
pub runs-written : (xs : List ℕ) (ms : List Mode) → length xs ≡ length ms → (characters_gs1 xs ms ≡ written_in xs (runs_of ms)) × (runs_of (doubled_gs1 xs ms) ≡ segments_of xs (runs_of ms))
unfolding characters_gs1 doubled_gs1 runs_of written_in segments_of escaped
runs-written [] [] h = (refl, refl)
runs-written [] (m ∷ ms) h = absurd (omega arith)
runs-written (x ∷ xs) [] h = absurd (omega arith)
runs-written (x ∷ xs) (m ∷ ms) h =
    let rest = runs-written xs ms (omega arith) in (
      search (arith, cond_both, same-rank, eqb-true, written-one, one-suc, rest.0),
      search (arith, cond_both, same-rank, eqb-true, written-one, one-suc, segments-begun, prepend-self, rest.1),
    )
