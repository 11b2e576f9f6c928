use Rattle.{arrayvec.specs.ArrayVec.array_vec_len, qr_mending.specs.Steps.Roots.times_root, std.proofs.Common.{◌≡◌, ◌++◌, drop}}
use Rattle.qr_mending.proofs.roots.with_root.Given as goal

abbrev pub invariant-loop-coefficient : goal.invariant-loop-coefficient
invariant-loop-coefficient l = record {
  count : array_vec_len l.product ≡ l.coefficient-index;
  product : l.product.items ++ times_root l.root l.carry (drop l.coefficient-index l.polynomial) ≡ times_root l.root 0 l.polynomial;
}
