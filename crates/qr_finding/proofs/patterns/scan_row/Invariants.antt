use Rattle.std.proofs.Common.{◌≤◌}
use Rattle.qr_finding.proofs.patterns.scan_row.Given as goal

-- no run is too long
abbrev pub invariant-loop-x : goal.invariant-loop-x
invariant-loop-x l =
    (l.runs.0 ≤ 32767) × (l.runs.1.0 ≤ 32767) × (l.runs.1.1.0 ≤ 32767) × (l.runs.1.1.1.0 ≤ 32767) × (l.runs.1.1.1.1.0 ≤ 32767)
