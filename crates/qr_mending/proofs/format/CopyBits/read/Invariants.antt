use Rattle.{qr_matrix.specs.BitRow.has_bit, qr_mending.specs.Format.copy_bit, std.proofs.Common.{◌≡◌, ◌+◌, ◌-◌, ◌^◌, ◌<◌, ℕ}}
use Rattle.qr_mending.proofs.format.CopyBits.read.Given as goal

abbrev pub invariant-loop-i : goal.invariant-loop-i
invariant-loop-i l = record {
  few : l.dark < 2 ^ (15 - l.i);
  few_unread : l.unread < 2 ^ (15 - l.i);
  dark : (k : ℕ) → l.i + k < 15 → has_bit l.dark k ≡ copy_bit l.copy l.scan.matrix.now (l.i + k);
  unread : (k : ℕ) → l.i + k < 15 → has_bit l.unread k ≡ copy_bit l.copy l.scan.unknown.now (l.i + k);
}
