use Rattle.{std.proofs.Common.{◌≡◌, ◌+◌, ◌≤◌, drop, length}, qr_field.specs.Distance.differences}
use Rattle.qr_mending.proofs.block.count_differences.Given as goal

abbrev pub invariant-loop-k : goal.invariant-loop-k
invariant-loop-k l = record {
  few : l.count + l.k ≤ length l.xs;
  value : l.count ≡ differences (drop l.k l.xs) (drop l.k l.ys);
}
