use Rattle.{qr_field.specs.Distance.errors, qr_mending.specs.Erasures.{erased_errors, read_of}, std.proofs.Common.{◌≡◌, ◌+◌, ◌≤◌, drop, length}}
use Rattle.qr_mending.proofs.erasures.count_wrong.Given as goal

abbrev pub invariant-loop-k : goal.invariant-loop-k
invariant-loop-k l = record {
  few : l.misread + l.erased_wrong + l.k ≤ length l.codewords;
  misread : l.misread ≡ errors (read_of (drop l.k l.codewords) (drop l.k l.erased)) (drop l.k l.mended);
  erased : l.erased_wrong ≡ erased_errors (read_of (drop l.k l.codewords) (drop l.k l.erased)) (drop l.k l.codewords) (drop l.k l.mended);
}
