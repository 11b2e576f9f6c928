use Rattle.{std.proofs.Common.{◌≡◌, ◌≤◌, ◌*◌, sum_by, take}, qr_bits.specs.Segmentation.least_sixths}
use Rattle.qr_bits.proofs.lower_bound.least_bits.Given as goal

abbrev pub invariant-loop-byte : goal.invariant-loop-byte
invariant-loop-byte l = record {
  so_far : l.sixths ≡ sum_by least_sixths (take l.byte-index l.input);
  small : l.sixths ≤ 39 * l.byte-index;
}
