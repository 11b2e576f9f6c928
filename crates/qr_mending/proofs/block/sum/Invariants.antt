use Rattle.{std.proofs.Common.{◌≡◌, take}, arrayvec.specs.ArrayVec.array_vec_len, qr_field.specs.Polynomial.plus}
use Rattle.qr_mending.proofs.block.sum.Given as goal

abbrev pub invariant-loop-k : goal.invariant-loop-k
invariant-loop-k l = record {
  count : array_vec_len l.sum ≡ l.k;
  value : l.sum.items ≡ take l.k (plus l.xs l.ys);
}
