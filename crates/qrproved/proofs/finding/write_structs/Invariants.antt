use Rattle.{qrproved.specs.Finding.told_found, std.proofs.Common.{◌≡◌, ◌++◌, map, take, drop}}
use Rattle.qrproved.proofs.finding.write_structs.Given as goal

-- the first structs are written, and what comes after them is as it was
abbrev pub invariant-loop-i : goal.invariant-loop-i
invariant-loop-i l = l.out ≡ take l.i (map told_found l.squares) ++ drop l.i l.fn.out
