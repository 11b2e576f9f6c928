use Rattle.std.proofs.{Common.{arith, ◌≡◌, ◌+◌, ◌*◌, ◌/◌, [], refl}, lemmas.Result.err_from_is_err_and}
use Rattle.qr_devices.proofs.Facts.{emptied}
use Rattle.qr_images.specs.{Image.image_width, Printing.{band, band_count, escpos_file}}
use Rattle.qr_images.proofs.lemmas.{bitmap_lines.{put-failed, put-more, put-start}, png.all-written}
use Rattle.qr_images.proofs.escpos.write_escpos.Goals as goal

pub loop-k-init : goal.loop-k-init
loop-k-init g c = rw (c.new-pen.ensures.piece, c.new-pen.ensures.interrupted) (put-start _ _ [] _)

pub returns-in_err-put_band : goal.returns-in_err-put_band
unfolding escpos_file
returns-in_err-put_band g c =
    let s = c.args.settings.now in
    let g0 = c.args.square.now in
    rw ((err_from_is_err_and c.from_residual.result c.from_residual.ensures.1).1)
    (put-failed _ _ _ _ _ [] _ _ (λ k. band s g0 (255 * k) (band_count s g0 k)) c.loop-k.k ((image_width s g0 + 254) / 255) refl
    (omega (arith, c.div_ceil-k-end.ensures, c.width.ensures.value)) c.loop-k.invariant c.in_err-put_band.ensures)

pub loop-k-preserved : goal.loop-k-preserved
loop-k-preserved g c =
    let s = c.args.settings.now in
    let g0 = c.args.square.now in
    put-more _ _ _ _ _ _ [] _ _ _ (λ k. band s g0 (255 * k) (band_count s g0 k)) c.loop-k.k refl c.loop-k.invariant c.in_ok-put_band.ensures

pub returns : goal.returns
unfolding escpos_file
returns g c =
    let all : c.loop-k.k ≡ (image_width c.args.settings.now c.args.square.now + 254) / 255 = omega (arith, c.div_ceil-k-end.ensures, c.width.ensures.value) in
    let whole = rw all at c.loop-k.invariant in
    all-written _ _ _ _ c.reserve.result (emptied _ _ _ _ c.loop-k.pen c.reserve.new.self _ c.reserve.result whole c.reserve.ensures.writes c.reserve.ensures.room)
