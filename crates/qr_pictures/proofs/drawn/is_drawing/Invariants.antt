use Rattle.std.proofs.Common.{ℕ, ◌<◌}
use Rattle.qr_pictures.specs.Steps.{IsRowDrawn}
use Rattle.qr_pictures.proofs.drawn.is_drawing.Given as goal

abbrev pub invariant-loop-y : goal.invariant-loop-y
invariant-loop-y l = (k : ℕ) → k < l.y → IsRowDrawn l.picture l.frame k
