use Rattle.std.proofs.{Common.{arith, ◌≡◌, ◌≤◌, ◌+◌, ◌-◌, ◌*◌, ◌∷◌, [], ◌∙◌, ap}, lemmas.Result.err_from_is_err_and}
use Rattle.qr_devices.proofs.Facts.{formed}
use Rattle.qr_matrix.specs.Raster.{raster_width}
use Rattle.qr_images.specs.{BitmapLines.{toned, toned_line}, Image.{black_byte, line_length}}
use Rattle.qr_images.proofs.lemmas.{lines.{black-here, column-in}, pixels.bytes-shown, bitmap_lines.{put-failed-before, put-more, put-start}}
use Rattle.qr_images.proofs.bitmap_lines.put_line.Goals as goal

pub loop-done-init : goal.loop-done-init
loop-done-init g c = record {
  writes = put-start _ _ _ _;
  at = omega (arith, c.from.ensures);
  left = omega (arith, c.from.ensures, c.requires.some);
  within = omega (arith, c.from.ensures);
  far = omega arith;
}

pub returns-in_err-reserve : goal.returns-in_err-reserve
unfolding toned_line
returns-in_err-reserve g c =
    let s = c.args.settings.now in
    let g0 = c.args.square.now in
    let count : c.div_ceil-count.result ≡ line_length s g0 = omega (arith, c.div_ceil-count.ensures, c.width.ensures.value) in
    rw ((err_from_is_err_and c.from_residual.result c.from_residual.ensures.1).1)
    (put-failed-before _ _ _ _ _ _ _ (λ k. toned c.args.line.black (black_byte s g0 c.args.line.row k) ∷ []) c.loop-done.done (line_length s g0) (omega arith) c.loop-done.invariant.writes c.in_err-reserve.ensures.writes)

pub loop-done-preserved : goal.loop-done-preserved
loop-done-preserved g c =
    let s = c.args.settings.now in
    let g0 = c.args.square.now in
    let inv = c.loop-done.invariant in
    let count : c.div_ceil-count.result ≡ line_length s g0 = omega (arith, c.div_ceil-count.ensures, c.width.ensures.value) in
    let shown = bytes-shown s.margin c.args.line.row (c.loop-done.place.column * s.scale + (s.scale - c.loop-done.place.left)) s.scale c.cells_of-cells.result.now g0 c.cells_of-cells.ensures.dark in
    let here = c.in_tone.ensures ∙ ap (toned c.args.line.black) (black-here s g0 c.args.line.row _ c.loop-done.done c.next_byte-byte.result inv.at (c.next_byte-byte.ensures.value ∙ shown)) in
    let wide : c.loop-done.place.column ≤ raster_width s.margin g0 + 8 =
    column-in c.loop-done.place.column s.scale (s.scale - c.loop-done.place.left) (raster_width s.margin g0) c.loop-done.done c.requires.some inv.at (omega arith) in
    record {
      writes = put-more _ _ _ _ _ _ _ _ _ _ (λ k. toned c.args.line.black (black_byte s g0 c.args.line.row k) ∷ []) c.loop-done.done (ap (λ b. b ∷ []) here) inv.writes (formed _ _ _ _ _ _ _ _ c.in_ok-reserve.ensures.writes c.push.ensures.items);
      at = omega (arith, c.next_byte-byte.ensures.next, inv.at);
      left = c.next_byte-byte.ensures.left;
      within = c.next_byte-byte.ensures.within;
      far = omega (arith, c.next_byte-byte.ensures.far, wide, c.width.ensures.raster);
    }

pub returns : goal.returns
unfolding toned_line
returns g c =
    let s = c.args.settings.now in
    let count : c.div_ceil-count.result ≡ line_length s c.args.square.now = omega (arith, c.div_ceil-count.ensures, c.width.ensures.value) in
    let all : c.loop-done.done ≡ line_length s c.args.square.now = omega arith in
    rw all at c.loop-done.invariant.writes
