use Rattle.qrproved.specs.Finding.{HoldsScanned}
use Rattle.qr_scanning.specs.declared.scanning.Scanned.{Scanned}
use Rattle.std.proofs.Common.{◌≡◌, ◌*◌, ◌<◌, ◌≤◌, ℕ, length, slice_index_or}
use Rattle.qrproved.proofs.finding.write_scanned.Given as goal

-- the squares before the current one are written
abbrev pub invariant-loop-square : goal.invariant-loop-square
invariant-loop-square l = record {
  start : l.start ≡ l.square-index * 31329;
  long : length l.out ≡ length l.fn.out;
  each : (k : ℕ) (d : Scanned) → k < l.square-index → HoldsScanned (slice_index_or l.squares k d) (k * 31329) l.fn.out l.out;
  others : (i : ℕ) → l.start ≤ i → slice_index_or l.out i 0 ≡ slice_index_or l.fn.out i 0;
}
