use Rattle.qr_drawing.{proofs.lemmas.{svg.{symbol-begins, symbol-ends}, text.LineLemmas.{put-next, put-none, put-stops}}, specs.Svg.row_path}
use Rattle.std.proofs.{Common.{rules, refl, arith}, lemmas.Result.err_from_is_err_and}
use Rattle.qr_drawing.proofs.svg.put_symbol.Goals as goal

pub loop-row-init : goal.loop-row-init
loop-row-init g c = search (rules, put-none, symbol-begins)

pub returns-in_err-put_row : goal.returns-in_err-put_row
returns-in_err-put_row g c =
    rw ((err_from_is_err_and c.from_residual.result c.from_residual.ensures.1).1, symbol-ends c.args.top c.args.raster.now.margin _ c.args.raster.now.matrix.now refl)
    (put-stops _ _ _ _ _ _ _ _ _ _ (row_path c.args.top c.args.raster.now.margin c.args.raster.now.matrix.now) refl (omega arith) c.loop-row.invariant
    c.in_err-put_row.ensures)

pub loop-row-preserved : goal.loop-row-preserved
loop-row-preserved g c =
    put-next _ _ _ _ _ _ _ _ _ _ _ _ (row_path c.args.top c.args.raster.now.margin c.args.raster.now.matrix.now) refl
    (search rules) c.loop-row.invariant c.in_ok-put_row.ensures

pub returns : goal.returns
returns g c = rw (symbol-ends c.args.top c.args.raster.now.margin c.loop-row.row c.args.raster.now.matrix.now (omega arith)) c.loop-row.invariant
