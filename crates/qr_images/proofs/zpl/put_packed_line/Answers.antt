use Rattle.std.proofs.{Common.{arith, ℕ, ◌≡◌, ◌≤◌, ◌+◌, ◌-◌, ◌*◌, ◌/◌, ◌%◌, ◌∙◌, ◌∷◌, [], ap}, lemmas.Result.err_from_is_err_and}
use Rattle.qr_matrix.specs.Raster.{raster_width}
use Rattle.qr_images.specs.{Image.{black_byte, joined_below, line_length}, Packing.runs_from}
use Rattle.qr_images.proofs.lemmas.{lines.{black-here, column-in}, pixels.bytes-shown, runs.{line-digits, runs-none, went-failed, went-more, went-out, went-start}}
use Rattle.qr_images.proofs.zpl.put_packed_line.Goals as goal

pub loop-done-init : goal.loop-done-init
loop-done-init g c = record {
  went = went-start _ _ _ _ _ _ c.no_run-run.ensures.digit c.no_run-run.ensures.count;
  at = omega (arith, c.from.ensures);
  left = omega (arith, c.from.ensures, c.requires.some);
  within = omega (arith, c.from.ensures);
  far = omega arith;
}

pub returns-in_err-put_byte : goal.returns-in_err-put_byte
returns-in_err-put_byte g c =
    let s = c.args.settings.now in
    let g0 = c.args.square.now in
    let row = c.args.row in
    let inv = c.loop-done.invariant in
    let count : c.div_ceil-count.result ≡ line_length s g0 = omega (arith, c.div_ceil-count.ensures, c.width.ensures.value) in
    let shown = bytes-shown s.margin row (c.loop-done.place.column * s.scale + (s.scale - c.loop-done.place.left)) s.scale c.cells_of-cells.result.now g0 c.cells_of-cells.ensures.dark in
    let here = ap (λ (b : ℕ). b / 16 ∷ b % 16 ∷ []) (black-here s g0 row _ c.loop-done.done c.next_byte-byte.result inv.at (c.next_byte-byte.ensures.value ∙ shown)) in
    rw ((err_from_is_err_and c.from_residual.result c.from_residual.ensures.1).1, line-digits s g0 row)
    (went-failed _ _ _ _ _ _ _ _ (runs_from 0 0) (runs_from c.loop-done.run.digit c.loop-done.run.count) (λ k. black_byte s g0 row k / 16 ∷ black_byte s g0 row k % 16 ∷ [])
    c.loop-done.done (line_length s g0) here (omega arith) inv.went c.in_err-put_byte.ensures)

pub loop-done-preserved : goal.loop-done-preserved
loop-done-preserved g c =
    let s = c.args.settings.now in
    let g0 = c.args.square.now in
    let row = c.args.row in
    let inv = c.loop-done.invariant in
    let count : c.div_ceil-count.result ≡ line_length s g0 = omega (arith, c.div_ceil-count.ensures, c.width.ensures.value) in
    let shown = bytes-shown s.margin row (c.loop-done.place.column * s.scale + (s.scale - c.loop-done.place.left)) s.scale c.cells_of-cells.result.now g0 c.cells_of-cells.ensures.dark in
    let here = ap (λ (b : ℕ). b / 16 ∷ b % 16 ∷ []) (black-here s g0 row _ c.loop-done.done c.next_byte-byte.result inv.at (c.next_byte-byte.ensures.value ∙ shown)) in
    let wide : c.loop-done.place.column ≤ raster_width s.margin g0 + 8 =
    column-in c.loop-done.place.column s.scale (s.scale - c.loop-done.place.left) (raster_width s.margin g0) c.loop-done.done c.requires.some inv.at (omega arith) in
    record {
      went = went-more _ _ _ _ _ _ _ _ _ _ (runs_from 0 0) (runs_from c.loop-done.run.digit c.loop-done.run.count) (runs_from c.put_byte.new.run.digit c.put_byte.new.run.count)
          (λ k. black_byte s g0 row k / 16 ∷ black_byte s g0 row k % 16 ∷ []) c.loop-done.done here inv.went c.in_ok-put_byte.ensures;
      at = omega (arith, c.next_byte-byte.ensures.next, inv.at);
      left = c.next_byte-byte.ensures.left;
      within = c.next_byte-byte.ensures.within;
      far = omega (arith, c.next_byte-byte.ensures.far, wide, c.width.ensures.raster);
    }

pub returns : goal.returns
returns g c =
    let s = c.args.settings.now in
    let g0 = c.args.square.now in
    let row = c.args.row in
    let count : c.div_ceil-count.result ≡ line_length s g0 = omega (arith, c.div_ceil-count.ensures, c.width.ensures.value) in
    let all : c.loop-done.done ≡ line_length s g0 = omega arith in
    let went = rw all at c.loop-done.invariant.went in
    rw (line-digits s g0 row)
    (went-out _ _ _ _ _ _ _ _ _ _ (runs_from 0 0) (runs_from c.loop-done.run.digit c.loop-done.run.count)
    (joined_below (line_length s g0) (λ k. black_byte s g0 row k / 16 ∷ black_byte s g0 row k % 16 ∷ [])) c.put_run.result went (runs-none c.loop-done.run.digit c.loop-done.run.count) c.put_run.ensures)
