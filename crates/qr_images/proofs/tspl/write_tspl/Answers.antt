use Rattle.std.proofs.{Common.{arith, [], ◌≡◌}, lemmas.Result.err_from_is_err_and}
use Rattle.qr_devices.proofs.Facts.{emptied, stops-before, writes-on}
use Rattle.qr_images.specs.{Image.line_length, Printing.tspl_file}
use Rattle.qr_images.proofs.lemmas.{png.all-written, bitmap_lines.{stops-second, stops-third, writes-third}}
use Rattle.qr_images.proofs.tspl.write_tspl.Goals as goal

pub returns-in_err-put_tspl_head : goal.returns-in_err-put_tspl_head
unfolding tspl_file
returns-in_err-put_tspl_head g c =
    let stride : c.div_ceil.result ≡ line_length c.args.settings.now c.args.square.now = omega (arith, c.div_ceil.ensures, c.width-height.ensures.value) in
    rw ((err_from_is_err_and c.from_residual.result c.from_residual.ensures.1).1)
    (stops-before _ _ _ _ _ (rw (stride, c.width-height.ensures.value, c.new-pen.ensures.piece, c.new-pen.ensures.interrupted) at c.in_err-put_tspl_head.ensures))

pub returns-in_err-put_lines : goal.returns-in_err-put_lines
unfolding tspl_file
returns-in_err-put_lines g c =
    let stride : c.div_ceil.result ≡ line_length c.args.settings.now c.args.square.now = omega (arith, c.div_ceil.ensures, c.width-height.ensures.value) in
    let head = rw (stride, c.width-height.ensures.value, c.new-pen.ensures.piece, c.new-pen.ensures.interrupted) at c.in_ok-put_tspl_head.ensures in
    rw ((err_from_is_err_and c.from_residual-in_err-put_lines.result c.from_residual-in_err-put_lines.ensures.1).1)
    (stops-second _ _ _ _ _ [] _ _ _ _ head (rw c.width-height.ensures.value at c.in_err-put_lines.ensures))

pub returns-in_err-put_text : goal.returns-in_err-put_text
unfolding tspl_file
returns-in_err-put_text g c =
    let stride : c.div_ceil.result ≡ line_length c.args.settings.now c.args.square.now = omega (arith, c.div_ceil.ensures, c.width-height.ensures.value) in
    let head = rw (stride, c.width-height.ensures.value, c.new-pen.ensures.piece, c.new-pen.ensures.interrupted) at c.in_ok-put_tspl_head.ensures in
    let two = writes-on _ _ _ _ _ _ [] _ _ _ _ head (rw c.width-height.ensures.value at c.in_ok-put_lines.ensures) in
    rw ((err_from_is_err_and c.from_residual-in_err-put_text.result c.from_residual-in_err-put_text.ensures.1).1)
    (stops-third _ _ _ _ _ [] _ _ _ _ two c.in_err-put_text.ensures)

pub returns : goal.returns
unfolding tspl_file
returns g c =
    let stride : c.div_ceil.result ≡ line_length c.args.settings.now c.args.square.now = omega (arith, c.div_ceil.ensures, c.width-height.ensures.value) in
    let head = rw (stride, c.width-height.ensures.value, c.new-pen.ensures.piece, c.new-pen.ensures.interrupted) at c.in_ok-put_tspl_head.ensures in
    let two = writes-on _ _ _ _ _ _ [] _ _ _ _ head (rw c.width-height.ensures.value at c.in_ok-put_lines.ensures) in
    let three = writes-third _ _ _ _ _ _ [] _ _ _ _ _ two c.in_ok-put_text.ensures in
    all-written _ _ _ _ c.reserve.result (emptied _ _ _ _ c.put_text.new.pen c.reserve.new.self _ c.reserve.result three c.reserve.ensures.writes c.reserve.ensures.room)
