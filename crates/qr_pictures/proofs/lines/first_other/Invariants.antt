use Rattle.qr_pictures.specs.Steps.{AreAll}
use Rattle.qr_pictures.proofs.lines.first_other.Given as goal

abbrev pub invariant-loop-i : goal.invariant-loop-i
invariant-loop-i l = AreAll l.line 0 l.i l.value
