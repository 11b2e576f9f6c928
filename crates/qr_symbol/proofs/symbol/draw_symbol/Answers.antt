use Rattle.{qr_symbol.proofs.lemmas.{canvas.canvas-drawn, placement.PlacementLemmas.square-is}, std.proofs.{Common.rules, lemmas.Result.IfOk-from_err}}
use Rattle.qr_symbol.proofs.symbol.draw_symbol.Goals as goal

pub draw_data-requires : goal.draw_data-requires
draw_data-requires c = search (rules, square-is)

pub returns : goal.returns
returns c = search (rules, canvas-drawn)

pub returns-in_err-canvas : goal.returns-in_err-canvas
returns-in_err-canvas c = IfOk-from_err _ _ c.from_residual-in_err-canvas.ensures.0
