-- Segments that grow at their end.
use Rattle.qr_bits.{proofs.lemmas.best_modes.ChoiceLemmas.on-after, specs.{Modes.may_use, Segmentation.{rank, prepend_mode, runs_of}}}
use Rattle.qr_bits.specs.Steps.{BestModes.{follow, mode_at}, RunState.{state_after, state_on}, Segmentation.{one_segment, append_mode}}
use Rattle.qr_bits.specs.declared.{modes.{Mode.Mode, Rule.Rule}, run_state.RunState.RunState, segmentation.Segment.Segment}
use Rattle.std.proofs.Common.{◌≡◌, ℕ, zero, suc, ◌+◌, true, ◌==◌, List, [], ◌∷◌, ◌++◌, ◌≤◌, ◌<◌, length, replicate, reverse, refl, append_assoc, arith}
use Rattle.std.{proofs.lemmas.{Bool.{and_from, cond_both, Decides.nat_tests}, List.{reverse-append, Sums.sum_by-cons}}, specs.List.{list_all, sum_by}}

-- the runs of modes with one more mode after them
pub runs_of-push : (ms : List Mode) (m : Mode) → runs_of (ms ++ m ∷ []) ≡ append_mode (runs_of ms) m
unfolding runs_of append_mode
runs_of-push [] m = refl
runs_of-push (k ∷ ms) m = search (arith, runs_of-push ms m)

-- a mode added after the last of some segments
pub append_mode-last : (ss : List Segment) (s : Segment) (m : Mode) → append_mode (ss ++ s ∷ []) m ≡ ss ++ append_mode (s ∷ []) m
unfolding append_mode
append_mode-last [] s m = refl
append_mode-last (t ∷ []) s m = refl
append_mode-last (t ∷ u ∷ ss) s m = cc (append_mode-last (u ∷ ss) s m)

-- the modes so far, whose runs were found, the last of them open, and then those to which k rows of the table lead
pub record IsFound (all : List Mode) (most : ℕ) (found : List Segment) (m : Mode) (n : ℕ) (p : RunState) (rows : List ℕ) (k : ℕ) : Type 0 where
  pub modes : List Mode
  pub runs : found ++ one_segment m n ≡ runs_of modes
  pub led : modes ++ follow p (reverse rows) ≡ all
  pub few : n + k ≤ most
  pub first : n ≡ 0 → found ≡ []
  pub next : state_on p ≡ state_after p m

-- one more row, whose mode goes on with the open run or begins one
pub found-more : {all : List Mode} {most n k : ℕ} {found : List Segment} {m : Mode} {p : RunState} {items : List ℕ} (rows : List ℕ) (row j i : ℕ) (w : Mode) (q : RunState) (new : List Segment)
    → IsFound all most found m n p items k → items ≡ rows ++ row ∷ [] → j + 1 ≡ k → w ≡ mode_at row p
    → new ++ one_segment w i ≡ append_mode (found ++ one_segment m n) w → q ≡ state_after p w → 0 < i → i ≤ n + 1 → IsFound all most new w i q rows j
unfolding follow
found-more {p = p} rows row j i w q new h e l is f state some low = rw state (record {
  modes = h.modes ++ w ∷ [];
  runs = cc (runs_of-push h.modes w);
  led = search (arith, reverse-append, append_assoc);
  few = omega arith;
  first = λ z. absurd (omega arith);
  next = on-after p w;
})

sum_by-prepend_mode : (m : Mode) (segs : List Segment) → sum_by (λ s. s.len) (prepend_mode m segs) ≡ 1 + sum_by (λ s. s.len) segs
sum_by-prepend_mode m [] = refl
sum_by-prepend_mode m (s ∷ ss) =
    cond_both (rank m == rank s.mode) _ _ (λ (r : List Segment). sum_by (λ t. t.len) r ≡ 1 + sum_by (λ t. t.len) (s ∷ ss))
    (omega (arith, sum_by-cons)) (omega (arith, sum_by-cons))

-- the lengths of the runs add up to the number of modes
pub sum_by-runs_of : (ms : List Mode) → sum_by (λ s. s.len) (runs_of ms) ≡ length ms
unfolding runs_of
sum_by-runs_of [] = refl
sum_by-runs_of (m ∷ ms) = omega (arith, sum_by-prepend_mode, sum_by-runs_of ms)

-- the runs of n times one mode are one segment
pub runs_of-replicate : (m : Mode) (n : ℕ) → runs_of (replicate n m) ≡ one_segment m n
unfolding runs_of
runs_of-replicate m zero = refl
runs_of-replicate m (suc zero) = refl
runs_of-replicate m (suc (suc n)) = search (arith, nat_tests, runs_of-replicate m (suc n))

-- if the rule allows a mode, it allows it for each byte
pub all-used : (r : Rule) (m : Mode) (n : ℕ) → may_use r m ≡ true → list_all (may_use r) (replicate n m) ≡ true
all-used r m zero u = refl
all-used r m (suc n) u = search (arith, and_from, all-used r m n u)
