use Rattle.qr_devices.proofs.Facts.{formed, stops-before}
use Rattle.qr_documents.{specs.Pdf.{objects_below, pdf_header}, proofs.lemmas.pdf.{puts-on}}
use Rattle.std.proofs.lemmas.Result.{err_from_is_err_and}
use Rattle.qr_documents.proofs.pdf.put_objects.Goals as goal

pub returns-in_err-reserve : goal.returns-in_err-reserve
unfolding objects_below pdf_header
returns-in_err-reserve g c = rw ((err_from_is_err_and c.from_residual.result c.from_residual.ensures.1).1) (stops-before _ _ _ _ _ c.in_err-reserve.ensures.writes)

pub returns : goal.returns
unfolding objects_below pdf_header
returns g c =
    let held = c.args.pen.now.piece in
    puts-on _ _ _ _ _ held _ _ _ c.put_each_object.new.pen c.put_each_object.result
    (formed _ _ _ _ held _ _ _ c.in_ok-reserve.ensures.writes c.push_all.ensures.items) c.put_each_object.ensures
