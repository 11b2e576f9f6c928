-- The best rest of an assignment is the best mode for the next byte and the best rest after it.
use Rattle.qr_bits.specs.{Segmentation.rank, Steps.RunState.{allowed_in, IsBestRest}, declared.{interpretation.Interpretation.Interpretation, modes.Mode.Mode}}
use Rattle.{qr_bits.specs.declared.{modes.Rule.Rule, run_state.RunState.RunState}, std.proofs.Common.{◌≡◌, ℕ, Bool, List, IsTrue, arith}}

-- two modes of one rank are equal
pub same-rank : (m k : Mode) → rank m ≡ rank k → m ≡ k
same-rank m k h = grind arith

-- for each state after the next byte, the best rest, if a rest is allowed
abbrev pub BestBelow : Interpretation → ℕ → Rule → (ℕ → ℕ → Bool) → List ℕ → (RunState → List Mode) → (RunState → ℕ) → Type 0
BestBelow i v r test xs f cost = (q : RunState) (ks : List Mode) → IsTrue (allowed_in i r test q xs ks) → IsBestRest i v r test q xs (f q) (cost q)
