use Rattle.std.proofs.Common.{◌≤◌, length}
use Rattle.qr_pictures.specs.Steps.{AreAll}
use Rattle.qr_pictures.proofs.lines.end_of_others.Given as goal

abbrev pub invariant-back : goal.invariant-back
invariant-back l = record { within : l.end ≤ length l.line; after : AreAll l.line l.end (length l.line) l.value }

abbrev pub decreases-back : goal.decreases-back
decreases-back l = l.end
