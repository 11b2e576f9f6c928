use Rattle.std.proofs.{Common.{[]}, lemmas.Result.err_from_is_err_and}
use Rattle.qr_devices.proofs.Facts.{emptied, stops-before, writes-on, writes-stop}
use Rattle.qr_images.specs.{Writing.pbm_file}
use Rattle.qr_images.proofs.lemmas.{bitmap_lines.lines-black, png.all-written}
use Rattle.qr_images.proofs.pbm.write_pbm.Goals as goal

pub returns-in_err-put_bitmap_head : goal.returns-in_err-put_bitmap_head
unfolding pbm_file
returns-in_err-put_bitmap_head g c =
    rw ((err_from_is_err_and c.from_residual.result c.from_residual.ensures.1).1) (stops-before _ _ _ _ _ (rw (c.width-height.ensures.value, c.new-pen.ensures.piece, c.new-pen.ensures.interrupted) at c.in_err-put_bitmap_head.ensures))

pub returns-in_err-put_lines : goal.returns-in_err-put_lines
unfolding pbm_file
returns-in_err-put_lines g c =
    let head = rw (c.width-height.ensures.value, c.new-pen.ensures.piece, c.new-pen.ensures.interrupted) at c.in_ok-put_bitmap_head.ensures in
    rw ((err_from_is_err_and c.from_residual-in_err-put_lines.result c.from_residual-in_err-put_lines.ensures.1).1) (writes-stop _ _ _ _ _ [] _ _ _ head (rw (c.width-height.ensures.value, lines-black c.args.settings.now c.args.square.now) at c.in_err-put_lines.ensures))

pub returns : goal.returns
unfolding pbm_file
returns g c =
    let head = rw (c.width-height.ensures.value, c.new-pen.ensures.piece, c.new-pen.ensures.interrupted) at c.in_ok-put_bitmap_head.ensures in
    let two = writes-on _ _ _ _ _ _ [] _ _ _ _ head (rw (c.width-height.ensures.value, lines-black c.args.settings.now c.args.square.now) at c.in_ok-put_lines.ensures) in
    all-written _ _ _ _ c.reserve.result (emptied _ _ _ _ c.put_lines.new.pen c.reserve.new.self _ c.reserve.result two c.reserve.ensures.writes c.reserve.ensures.room)
