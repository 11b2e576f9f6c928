use Rattle.std.proofs.Common.{ℕ, ◌<◌}
use Rattle.qr_pictures.specs.Steps.{IsFinderModule, sampled}
use Rattle.qr_pictures.proofs.turn.is_finder_row.Given as goal

abbrev pub invariant-loop-col : goal.invariant-loop-col
invariant-loop-col l = (c : ℕ) → c < l.col → c < l.frame.side → IsFinderModule (sampled l.picture l.frame) l.middle.0 l.middle.1 l.row c
