use Rattle.std.proofs.{Common.{arith, ◌≡◌, ◌+◌, ◌/◌, ap}, lemmas.Result.err_from_is_err_and}
use Rattle.qr_images.specs.BitmapLines.{toned_line, toned_lines}
use Rattle.qr_images.proofs.lemmas.bitmap_lines.{put-failed, put-more, put-start}
use Rattle.qr_images.proofs.bitmap_lines.put_lines.Goals as goal

pub loop-y-init : goal.loop-y-init
loop-y-init g c = put-start _ _ _ _

pub returns-in_err-put_line : goal.returns-in_err-put_line
unfolding toned_lines
returns-in_err-put_line g c =
    let s = c.args.settings.now in
    let g0 = c.args.square.now in
    let here = ap (λ k. toned_line c.args.lines.black s g0 ((c.args.lines.first + c.loop-y.y) / k)) c.from.ensures in
    rw ((err_from_is_err_and c.from_residual.result c.from_residual.ensures.1).1)
    (put-failed _ _ _ _ _ _ _ _ (λ y. toned_line c.args.lines.black s g0 ((c.args.lines.first + y) / s.scale)) c.loop-y.y c.args.lines.count here (omega arith) c.loop-y.invariant c.in_err-put_line.ensures)

pub loop-y-preserved : goal.loop-y-preserved
loop-y-preserved g c =
    let s = c.args.settings.now in
    let g0 = c.args.square.now in
    let here = ap (λ k. toned_line c.args.lines.black s g0 ((c.args.lines.first + c.loop-y.y) / k)) c.from.ensures in
    put-more _ _ _ _ _ _ _ _ _ _ (λ y. toned_line c.args.lines.black s g0 ((c.args.lines.first + y) / s.scale)) c.loop-y.y here c.loop-y.invariant c.in_ok-put_line.ensures

pub returns : goal.returns
unfolding toned_lines
returns g c =
    let all : c.loop-y.y ≡ c.args.lines.count = omega arith in
    rw all at c.loop-y.invariant
