use Rattle.qr_devices.proofs.Facts.{formed, stops-between, stops-first, writes-on, writes-stop}
use Rattle.qr_documents.specs.Pdf.{square_commands}
use Rattle.std.proofs.lemmas.Result.{err_from_is_err_and}
use Rattle.qr_documents.proofs.pdf.put_square.Goals as goal

pub returns-in_err-put_lines : goal.returns-in_err-put_lines
unfolding square_commands
returns-in_err-put_lines g c =
    let held = c.args.pen.now.piece in
    rw ((err_from_is_err_and c.from_residual-in_err-put_lines.result c.from_residual-in_err-put_lines.ensures.1).1) (stops-first _ _ _ held _ _ (writes-stop _ _ _ _ _ held _ _ _
    (formed _ _ _ _ held _ _ _ c.in_ok-reserve.ensures.writes (rw c.width.ensures.value at c.push_square_start.ensures.items)) c.in_err-put_lines.ensures))

pub returns-in_err-reserve-2 : goal.returns-in_err-reserve-2
unfolding square_commands
returns-in_err-reserve-2 g c =
    let held = c.args.pen.now.piece in
    rw ((err_from_is_err_and c.from_residual-in_err-reserve-2.result c.from_residual-in_err-reserve-2.ensures.1).1) (stops-between _ _ _ _ _ held _ _ _ (writes-on _ _ _ _ _ _ held _ _ _ _
    (formed _ _ _ _ held _ _ _ c.in_ok-reserve.ensures.writes (rw c.width.ensures.value at c.push_square_start.ensures.items)) c.in_ok-put_lines.ensures) c.in_err-reserve-2.ensures.writes)

pub returns : goal.returns
unfolding square_commands
returns g c =
    let held = c.args.pen.now.piece in
    writes-on _ _ _ _ _ _ held _ _ _ _ (writes-on _ _ _ _ _ _ held _ _ _ _
    (formed _ _ _ _ held _ _ _ c.in_ok-reserve.ensures.writes (rw c.width.ensures.value at c.push_square_start.ensures.items)) c.in_ok-put_lines.ensures)
    (formed _ _ _ _ _ _ _ _ c.in_ok-reserve-2.ensures.writes c.push_all.ensures.items)
