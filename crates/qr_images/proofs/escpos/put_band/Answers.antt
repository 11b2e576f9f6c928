use Rattle.std.proofs.{Common.{arith, ◌≡◌, ◌*◌, true}, lemmas.Result.err_from_is_err_and}
use Rattle.qr_devices.proofs.Facts.{stops-first}
use Rattle.qr_images.specs.{BitmapLines.toned_lines, Image.line_length, Printing.{band, band_count, band_head}}
use Rattle.qr_images.proofs.lemmas.png.{puts-on}
use Rattle.qr_images.proofs.escpos.put_band.Goals as goal

pub returns-in_err-put_band_head : goal.returns-in_err-put_band_head
unfolding band
returns-in_err-put_band_head g c =
    let s = c.args.settings.now in
    let g0 = c.args.square.now in
    let stride : c.div_ceil.result ≡ line_length s g0 = omega (arith, c.div_ceil.ensures, c.width-height.ensures.value) in
    let count : c.min.result ≡ band_count s g0 c.args.k = omega (arith, c.min.ensures, c.width-height.ensures.value) in
    rw ((err_from_is_err_and c.from_residual.result c.from_residual.ensures.1).1) (stops-first _ _ _ c.args.pen.now.piece
    (band_head (line_length s g0) (band_count s g0 c.args.k)) (toned_lines true s g0 (255 * c.args.k) (band_count s g0 c.args.k)) (rw (stride, count) at c.in_err-put_band_head.ensures))

pub returns : goal.returns
unfolding band
returns g c =
    let s = c.args.settings.now in
    let g0 = c.args.square.now in
    let stride : c.div_ceil.result ≡ line_length s g0 = omega (arith, c.div_ceil.ensures, c.width-height.ensures.value) in
    let count : c.min.result ≡ band_count s g0 c.args.k = omega (arith, c.min.ensures, c.width-height.ensures.value) in
    puts-on _ _ _ _ _ _ _ _ _ _ _ c.put_lines.result (rw (stride, count) at c.in_ok-put_band_head.ensures) (rw count at c.put_lines.ensures)
