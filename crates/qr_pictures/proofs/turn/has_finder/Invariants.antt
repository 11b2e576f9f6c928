use Rattle.std.proofs.Common.{ℕ, ◌<◌}
use Rattle.qr_pictures.specs.Steps.{IsFinderRow, sampled}
use Rattle.qr_pictures.proofs.turn.has_finder.Given as goal

abbrev pub invariant-loop-row : goal.invariant-loop-row
invariant-loop-row l = (r : ℕ) → r < l.row → r < l.frame.side → IsFinderRow l.frame.side (sampled l.picture l.frame) l.a l.b r
