use Rattle.{qr_matrix.specs.{BitRow.has_bit, Sums.count_below}, std.proofs.Common.{◌≡◌, ◌≤◌}}
use Rattle.qr_mending.proofs.format.count_bits.Given as goal

abbrev pub invariant-loop-i : goal.invariant-loop-i
invariant-loop-i l = record {
  few : l.count ≤ l.i;
  value : l.count ≡ count_below l.i (has_bit l.word);
}
