use Rattle.{arrayvec.specs.ArrayVec.array_vec_len, qr_field.specs.Polynomial.IsByte, qr_mending.specs.Steps.{Errors.weighted, Sums.HasValues}}
use Rattle.std.{proofs.Common.{◌≡◌, ℕ, List}, specs.List.All}
use Rattle.qr_mending.proofs.erasures.modified_syndromes.Given as goal

abbrev pub invariant-loop-i : goal.invariant-loop-i
invariant-loop-i l = record {
  count : array_vec_len l.modified ≡ l.i;
  values : (errors : List ℕ) → All IsByte errors → HasValues l.syndromes errors → HasValues l.modified.items (weighted l.polynomial errors);
}
