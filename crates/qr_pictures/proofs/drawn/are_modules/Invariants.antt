use Rattle.qr_pictures.specs.Steps.{AreModules}
use Rattle.qr_pictures.proofs.drawn.are_modules.Given as goal

abbrev pub invariant-loop-col : goal.invariant-loop-col
invariant-loop-col l = AreModules l.frame l.line l.col
