use Rattle.std.proofs.Common.{◌≡◌, take}
use Rattle.qr_layout.proofs.version.Version.centres.Given as goal

abbrev pub invariant-loop-centre : goal.invariant-loop-centre
invariant-loop-centre l = l.centres.items ≡ take l.centre-index l.centre-items
