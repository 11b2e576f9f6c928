use Rattle.qr_symbol.proofs.lemmas.{canvas.{canvas-mask, canvas-drawn}, placement.PlacementLemmas.square-is}
use Rattle.std.proofs.{Common.{rules, arith}, lemmas.{Grind.common_steps, Result.err_from_is_err_and}}
use Rattle.qr_symbol.proofs.mask.build_on.Goals as goal

pub draw_data-requires : goal.draw_data-requires
draw_data-requires c = search (rules, square-is)

pub returns-clause-mask : goal.returns-clause-mask
returns-clause-mask c = let d = c.draw_data in
    canvas-mask _ _ _ d.new.self _ (omega arith) d.ensures.version d.ensures.level d.ensures.unmasked c.in_ok-mask.ensures

pub returns-clause-matrix : goal.returns-clause-matrix
returns-clause-matrix c = search (rules, canvas-drawn)

pub returns-in_err-matrix : goal.returns-in_err-matrix
returns-in_err-matrix c = search (rules, err_from_is_err_and)

pub returns-in_err-mask : goal.returns-in_err-mask
returns-in_err-mask c = grind (arith, common_steps, err_from_is_err_and)
