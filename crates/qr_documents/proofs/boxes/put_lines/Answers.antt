use Rattle.qr_documents.{proofs.lemmas.boxes.{lines-begin, lines-end, lines_at}, specs.Boxes.{row_lines}}
use Rattle.qr_drawing.{proofs.Facts.{put-next, put-none, put-stops}, specs.Raster.{raster_width}}
use Rattle.std.proofs.{Common.{◌≡◌, ◌+◌, ◌-◌, rules, ap, refl, arith}, lemmas.Result.err_from_is_err_and}
use Rattle.qr_documents.proofs.boxes.put_lines.Goals as goal

pub loop-index-init : goal.loop-index-init
loop-index-init g c = search (rules, put-none, lines-begin)

pub returns-in_err-put_row_lines : goal.returns-in_err-put_row_lines
returns-in_err-put_row_lines g c =
    let margin = c.args.raster.now.margin in
    let square = c.args.raster.now.matrix.now in
    let lines = lines_at c.args.ending.now c.args.below margin square in
    let up : c.args.below + (raster_width margin square - (margin + c.loop-index.index + 1)) ≡ c.args.below + c.from.result + c.from-in-loop-index.result = omega arith in
    let here = ap (λ up. row_lines c.args.ending.now up margin square (margin + c.loop-index.index)) up in
    rw ((err_from_is_err_and c.from_residual.result c.from_residual.ensures.1).1, lines-end c.args.ending.now c.args.below margin _ square refl)
    (put-stops _ _ _ _ _ _ _ _ _ _ lines here (omega arith) c.loop-index.invariant c.in_err-put_row_lines.ensures)

pub loop-index-preserved : goal.loop-index-preserved
loop-index-preserved g c =
    let margin = c.args.raster.now.margin in
    let square = c.args.raster.now.matrix.now in
    let lines = lines_at c.args.ending.now c.args.below margin square in
    let up : c.args.below + (raster_width margin square - (margin + c.loop-index.index + 1)) ≡ c.args.below + c.from.result + c.from-in-loop-index.result = omega arith in
    let here = ap (λ up. row_lines c.args.ending.now up margin square (margin + c.loop-index.index)) up in
    put-next _ _ _ _ _ _ _ _ _ _ _ _ lines here (search rules) c.loop-index.invariant c.in_ok-put_row_lines.ensures

pub returns : goal.returns
returns g c = rw (lines-end c.args.ending.now c.args.below c.args.raster.now.margin c.loop-index.index c.args.raster.now.matrix.now (omega arith)) c.loop-index.invariant
