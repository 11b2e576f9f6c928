use Rattle.{qrproved.specs.Interpretation.told_eci, std.proofs.Common.{◌≡◌, ◌++◌, map, take, drop}}
use Rattle.qrproved.proofs.interpretation.write_ecis.Given as goal

-- the first headers are written, and what comes after them is as it was
abbrev pub invariant-loop-i : goal.invariant-loop-i
invariant-loop-i l = l.out ≡ take l.i (map told_eci l.changes) ++ drop l.i l.fn.out
