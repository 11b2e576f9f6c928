use Rattle.std.proofs.{Common.{arith, ◌≡◌, refl}, lemmas.Result.err_from_is_err_and}
use Rattle.qr_matrix.specs.Raster.{raster_width}
use Rattle.qr_images.specs.Packing.{packed_row, packed_rows}
use Rattle.qr_images.proofs.lemmas.bitmap_lines.{put-failed, put-more, put-start}
use Rattle.qr_images.proofs.zpl.put_packed_rows.Goals as goal

pub loop-row-init : goal.loop-row-init
loop-row-init g c = put-start _ _ _ _

pub returns-in_err-put_packed_row : goal.returns-in_err-put_packed_row
unfolding packed_rows
returns-in_err-put_packed_row g c =
    let s = c.args.settings.now in
    let g0 = c.args.square.now in
    rw ((err_from_is_err_and c.from_residual.result c.from_residual.ensures.1).1)
    (put-failed _ _ _ _ _ _ _ _ (λ r. packed_row s g0 r) c.loop-row.row (raster_width s.margin g0) refl (omega (arith, c.columns-row-end.ensures.value)) c.loop-row.invariant c.in_err-put_packed_row.ensures)

pub loop-row-preserved : goal.loop-row-preserved
loop-row-preserved g c = put-more _ _ _ _ _ _ _ _ _ _ (λ r. packed_row c.args.settings.now c.args.square.now r) c.loop-row.row refl c.loop-row.invariant c.in_ok-put_packed_row.ensures

pub returns : goal.returns
unfolding packed_rows
returns g c =
    let all : c.loop-row.row ≡ raster_width c.args.settings.now.margin c.args.square.now = omega (arith, c.columns-row-end.ensures.value) in
    rw all at c.loop-row.invariant
