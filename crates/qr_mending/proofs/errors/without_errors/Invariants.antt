use Rattle.{arrayvec.specs.ArrayVec.array_vec_len, qr_field.specs.Polynomial.plus, qr_mending.specs.Steps.Errors.{AreErrors, AreLeft, IsRemoval}}
use Rattle.std.proofs.Common.{◌≡◌, ℕ, ◌-◌, ◌++◌, List, take, drop, length}
use Rattle.qr_mending.proofs.errors.without_errors.Given as goal

-- the errors of the codewords before the current one are removed, and the search has the others left
abbrev pub invariant-loop-k : goal.invariant-loop-k
invariant-loop-k l = record {
  long : array_vec_len l.codewords ≡ length l.damaged;
  removal : IsRemoval (length l.damaged - l.k) l.removal;
  left : (errors : List ℕ) → AreErrors (length l.damaged) l.locator l.syndromes errors →
      AreLeft (length l.damaged - l.k) (drop l.k errors) l.removal;
  sum : (errors : List ℕ) → AreErrors (length l.damaged) l.locator l.syndromes errors →
      l.codewords.items ≡ take l.k (plus l.damaged errors) ++ drop l.k l.damaged;
}
