use Rattle.qr_devices.proofs.Facts.{emptied, written}
use Rattle.std.proofs.lemmas.Result.{err_from_is_err_and}
use Rattle.qr_documents.proofs.sheets.write_sheets.Goals as goal

pub returns-in_err-put_pdf : goal.returns-in_err-put_pdf
returns-in_err-put_pdf g c =
    written _ _ 0 _ c.from_residual.result (rw ((err_from_is_err_and c.from_residual.result c.from_residual.ensures.1).1)
    (rw (c.new-pen.ensures.piece, c.new-pen.ensures.interrupted) at c.in_err-put_pdf.ensures))

pub returns : goal.returns
returns g c =
    written _ _ _ _ c.reserve.result (emptied _ _ _ _ c.put_pdf.new.pen c.reserve.new.self _ c.reserve.result
    (rw (c.new-pen.ensures.piece, c.new-pen.ensures.interrupted) at c.in_ok-put_pdf.ensures) c.reserve.ensures.writes c.reserve.ensures.room)
