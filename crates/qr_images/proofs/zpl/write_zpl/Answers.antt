use Rattle.std.proofs.{Common.{arith, [], ◌≡◌}, lemmas.Result.err_from_is_err_and}
use Rattle.qr_devices.proofs.Facts.{emptied, stops-before, writes-on}
use Rattle.qr_images.specs.{Image.line_length, Printing.zpl_file}
use Rattle.qr_images.proofs.lemmas.{png.all-written, bitmap_lines.{stops-second, stops-third, writes-third}}
use Rattle.qr_images.proofs.zpl.write_zpl.Goals as goal

pub returns-in_err-put_zpl_head : goal.returns-in_err-put_zpl_head
unfolding zpl_file
returns-in_err-put_zpl_head g c =
    let stride : c.div_ceil-stride.result ≡ line_length c.args.settings.now c.args.square.now = omega (arith, c.div_ceil-stride.ensures, c.width.ensures.value) in
    rw ((err_from_is_err_and c.from_residual.result c.from_residual.ensures.1).1)
    (stops-before _ _ _ _ _ (rw (stride, c.bytes_of_lines-total.ensures, c.new-pen.ensures.piece, c.new-pen.ensures.interrupted) at c.in_err-put_zpl_head.ensures))

pub returns-in_err-put_packed_rows : goal.returns-in_err-put_packed_rows
unfolding zpl_file
returns-in_err-put_packed_rows g c =
    let stride : c.div_ceil-stride.result ≡ line_length c.args.settings.now c.args.square.now = omega (arith, c.div_ceil-stride.ensures, c.width.ensures.value) in
    let head = rw (stride, c.bytes_of_lines-total.ensures, c.new-pen.ensures.piece, c.new-pen.ensures.interrupted) at c.in_ok-put_zpl_head.ensures in
    rw ((err_from_is_err_and c.from_residual-in_err-put_packed_rows.result c.from_residual-in_err-put_packed_rows.ensures.1).1)
    (stops-second _ _ _ _ _ [] _ _ _ _ head c.in_err-put_packed_rows.ensures)

pub returns-in_err-put_text : goal.returns-in_err-put_text
unfolding zpl_file
returns-in_err-put_text g c =
    let stride : c.div_ceil-stride.result ≡ line_length c.args.settings.now c.args.square.now = omega (arith, c.div_ceil-stride.ensures, c.width.ensures.value) in
    let head = rw (stride, c.bytes_of_lines-total.ensures, c.new-pen.ensures.piece, c.new-pen.ensures.interrupted) at c.in_ok-put_zpl_head.ensures in
    let two = writes-on _ _ _ _ _ _ [] _ _ _ _ head c.in_ok-put_packed_rows.ensures in
    rw ((err_from_is_err_and c.from_residual-in_err-put_text.result c.from_residual-in_err-put_text.ensures.1).1)
    (stops-third _ _ _ _ _ [] _ _ _ _ two c.in_err-put_text.ensures)

pub returns : goal.returns
unfolding zpl_file
returns g c =
    let stride : c.div_ceil-stride.result ≡ line_length c.args.settings.now c.args.square.now = omega (arith, c.div_ceil-stride.ensures, c.width.ensures.value) in
    let head = rw (stride, c.bytes_of_lines-total.ensures, c.new-pen.ensures.piece, c.new-pen.ensures.interrupted) at c.in_ok-put_zpl_head.ensures in
    let two = writes-on _ _ _ _ _ _ [] _ _ _ _ head c.in_ok-put_packed_rows.ensures in
    let three = writes-third _ _ _ _ _ _ [] _ _ _ _ _ two c.in_ok-put_text.ensures in
    all-written _ _ _ _ c.reserve.result (emptied _ _ _ _ c.put_text.new.pen c.reserve.new.self _ c.reserve.result three c.reserve.ensures.writes c.reserve.ensures.room)
