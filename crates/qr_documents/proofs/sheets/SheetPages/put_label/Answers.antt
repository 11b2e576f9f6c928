use Rattle.qr_devices.proofs.Facts.{formed, stops-before, stops-between, stops-first, writes-on, writes-stop}
use Rattle.qr_documents.proofs.lemmas.sheets.{label-parts}
use Rattle.std.proofs.{Common.{◌∙◌}, lemmas.Result.err_from_is_err_and}
use Rattle.qr_documents.proofs.sheets.SheetPages.put_label.Goals as goal

pub returns-in_err-reserve : goal.returns-in_err-reserve
returns-in_err-reserve g c = rw ((err_from_is_err_and c.from_residual.result c.from_residual.ensures.1).1) (stops-before _ _ _ _ _ c.in_err-reserve.ensures.writes)

pub returns-in_err-put_square : goal.returns-in_err-put_square
returns-in_err-put_square g c =
    let held = c.args.pen.now.piece in
    let parts = label-parts c.args.self.now.settings c.in-Some.raster.margin c.args.place c.in-Some.raster.matrix.now c.as_slice.result.now _ c.in-Some.ensures.0
    c.in-Some.ensures.2 (c.as_slice.ensures.value ∙ c.corner-corner.ensures.items) in
    rw ((err_from_is_err_and c.from_residual-in_err-put_square.result c.from_residual-in_err-put_square.ensures.1).1, parts) (stops-first _ _ _ held _ _ (writes-stop _ _ _ _ _ held _ _ _
    (formed _ _ _ _ held _ _ _ c.in_ok-reserve.ensures.writes c.push_all.ensures.items) c.in_err-put_square.ensures))

pub returns-in_err-reserve-2 : goal.returns-in_err-reserve-2
returns-in_err-reserve-2 g c =
    let held = c.args.pen.now.piece in
    let parts = label-parts c.args.self.now.settings c.in-Some.raster.margin c.args.place c.in-Some.raster.matrix.now c.as_slice.result.now _ c.in-Some.ensures.0
    c.in-Some.ensures.2 (c.as_slice.ensures.value ∙ c.corner-corner.ensures.items) in
    rw ((err_from_is_err_and c.from_residual-in_err-reserve-2.result c.from_residual-in_err-reserve-2.ensures.1).1, parts) (stops-between _ _ _ _ _ held _ _ _ (writes-on _ _ _ _ _ _ held _ _ _ _
    (formed _ _ _ _ held _ _ _ c.in_ok-reserve.ensures.writes c.push_all.ensures.items) c.in_ok-put_square.ensures) c.in_err-reserve-2.ensures.writes)

pub returns : goal.returns
returns g c =
    let held = c.args.pen.now.piece in
    let parts = label-parts c.args.self.now.settings c.in-Some.raster.margin c.args.place c.in-Some.raster.matrix.now c.as_slice.result.now _ c.in-Some.ensures.0
    c.in-Some.ensures.2 (c.as_slice.ensures.value ∙ c.corner-corner.ensures.items) in
    rw parts (writes-on _ _ _ _ _ _ held _ _ _ _ (writes-on _ _ _ _ _ _ held _ _ _ _
    (formed _ _ _ _ held _ _ _ c.in_ok-reserve.ensures.writes c.push_all.ensures.items) c.in_ok-put_square.ensures)
    (formed _ _ _ _ _ _ _ _ c.in_ok-reserve-2.ensures.writes c.push_all-2.ensures.items))
