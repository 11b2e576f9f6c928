use Rattle.{qr_matrix.proofs.Facts.colour-square, qr_symbol.proofs.lemmas.placement.PlacementLemmas.{outside, square-is}}
use Rattle.std.proofs.{Common.rules, lemmas.Result.IfOk-from_err}
use Rattle.qr_symbol.proofs.canvas.Canvas.new.Goals as goal

pub draw_fixed-requires : goal.draw_fixed-requires
draw_fixed-requires c = search (rules, square-is)

pub invariant_of-result : goal.invariant_of-result
invariant_of-result c = search (rules, square-is, outside, colour-square)

pub returns-in_err-region : goal.returns-in_err-region
returns-in_err-region c = search (rules, IfOk-from_err)
