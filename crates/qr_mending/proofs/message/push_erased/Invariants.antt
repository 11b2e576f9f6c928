use Rattle.std.proofs.Common.{◌≡◌, ◌==◌, ◌++◌, not, map, take}
use Rattle.qr_mending.proofs.message.push_erased.Given as goal

abbrev pub invariant-loop-i : goal.invariant-loop-i
invariant-loop-i l = l.erased.items ≡ l.initial.erased.items ++ map (λ mark. not (mark == 0)) (take l.i l.marks)
