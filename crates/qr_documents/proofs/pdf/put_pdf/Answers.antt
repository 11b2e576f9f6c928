use Rattle.qr_devices.proofs.Facts.{stops-first}
use Rattle.qr_documents.proofs.lemmas.pdf.{puts-on, whole-is}
use Rattle.std.proofs.{Common.{arith}, lemmas.Result.err_from_is_err_and}
use Rattle.qr_documents.proofs.pdf.put_pdf.Goals as goal

pub put_objects-requires-clause-all : goal.put_objects-requires-clause-all
put_objects-requires-clause-all g c = omega (arith, c.count.ensures.value)

pub put_table-requires-clause-all : goal.put_table-requires-clause-all
put_table-requires-clause-all g c = omega (arith, c.count.ensures.value)

pub returns-in_err-put_objects : goal.returns-in_err-put_objects
returns-in_err-put_objects g c =
    let held = c.args.pen.now.piece in
    rw ((err_from_is_err_and c.from_residual.result c.from_residual.ensures.1).1, whole-is (g.D.HasPages.pages c.args.document.now))
    (stops-first _ _ _ held _ _ (rw c.count.ensures.value at c.in_err-put_objects.ensures))

pub returns : goal.returns
returns g c =
    let held = c.args.pen.now.piece in
    rw (whole-is (g.D.HasPages.pages c.args.document.now))
    (puts-on _ _ _ _ _ held _ _ _ c.put_table.new.pen c.put_table.result (rw c.count.ensures.value at c.in_ok-put_objects.ensures) (rw c.count.ensures.value at c.put_table.ensures))
