use Rattle.qr_devices.proofs.Facts.{formed, stops-before, stops-between, stops-first, writes-on, writes-stop}
use Rattle.qr_documents.proofs.lemmas.pdf.{table-parts}
use Rattle.std.proofs.lemmas.Result.{err_from_is_err_and}
use Rattle.qr_documents.proofs.pdf.put_table.Goals as goal

pub returns-in_err-reserve : goal.returns-in_err-reserve
returns-in_err-reserve g c = rw ((err_from_is_err_and c.from_residual.result c.from_residual.ensures.1).1) (stops-before _ _ _ _ _ c.in_err-reserve.ensures.writes)

pub returns-in_err-at : goal.returns-in_err-at
returns-in_err-at g c =
    let held = c.args.pen.now.piece in
    rw ((err_from_is_err_and c.from_residual-in_err-at.result c.from_residual-in_err-at.ensures.1).1, table-parts c.args.objects) (stops-first _ _ _ held _ _ (writes-stop _ _ _ _ _ held _ _ _
    (formed _ _ _ _ held _ _ _ c.in_ok-reserve.ensures.writes c.push_table_start.ensures.items) c.in_err-at.ensures.writes))

pub returns-in_err-reserve-2 : goal.returns-in_err-reserve-2
returns-in_err-reserve-2 g c =
    let held = c.args.pen.now.piece in
    rw ((err_from_is_err_and c.from_residual-in_err-reserve-2.result c.from_residual-in_err-reserve-2.ensures.1).1, table-parts c.args.objects) (stops-between _ _ _ _ _ held _ _ _ (writes-on _ _ _ _ _ _ held _ _ _ _
    (formed _ _ _ _ held _ _ _ c.in_ok-reserve.ensures.writes c.push_table_start.ensures.items) c.in_ok-at.ensures.writes) c.in_err-reserve-2.ensures.writes)

pub returns : goal.returns
returns g c =
    let held = c.args.pen.now.piece in
    rw (table-parts c.args.objects) (writes-on _ _ _ _ _ _ held _ _ _ _ (writes-on _ _ _ _ _ _ held _ _ _ _
    (formed _ _ _ _ held _ _ _ c.in_ok-reserve.ensures.writes c.push_table_start.ensures.items) c.in_ok-at.ensures.writes)
    (formed _ _ _ _ _ _ _ _ c.in_ok-reserve-2.ensures.writes (rw c.in_ok-at.ensures.at at c.push_trailer.ensures.items)))
