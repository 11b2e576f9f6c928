use Rattle.{qr_matrix.specs.{Difference.differs, Sums.{count_below, sum_below}}, std.proofs.Common.{◌≡◌, ◌*◌, ◌≤◌}}
use Rattle.qr_matrix.proofs.difference.differences.Given as goal

abbrev pub invariant-loop-row : goal.invariant-loop-row
invariant-loop-row l = record {
  counted : l.total ≡ sum_below l.row (λ r. count_below l.a.side (differs l.a l.b r));
  small : l.total ≤ 192 * l.row;
}
