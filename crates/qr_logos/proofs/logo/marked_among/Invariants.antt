use Rattle.{qr_logos.specs.Steps.Logo.marked_among, std.proofs.Common.◌≡◌}
use Rattle.qr_logos.proofs.logo.marked_among.Given as goal

abbrev pub invariant-loop-i : goal.invariant-loop-i
invariant-loop-i l = l.marked ≡ marked_among l.marks l.first l.step l.i
