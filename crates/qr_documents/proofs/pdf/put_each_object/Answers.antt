use Rattle.qr_drawing.proofs.Facts.{no-texts, put-next, put-none, put-stops}
use Rattle.qr_documents.specs.Pdf.{object}
use Rattle.std.proofs.{Common.{◌≡◌, arith, refl}, lemmas.Result.err_from_is_err_and}
use Rattle.qr_documents.proofs.pdf.put_each_object.Goals as goal

pub loop-index-init : goal.loop-index-init
loop-index-init g c = put-none _ _ _ _ _ (no-texts _)

pub returns-in_err-put_object : goal.returns-in_err-put_object
returns-in_err-put_object g c =
    rw ((err_from_is_err_and c.from_residual.result c.from_residual.ensures.1).1)
    (put-stops _ _ _ _ _ _ _ _ _ _ (object (g.D.HasPages.pages c.args.document.now)) refl (omega arith) c.loop-index.invariant c.in_err-put_object.ensures)

pub loop-index-preserved : goal.loop-index-preserved
loop-index-preserved g c =
    put-next _ _ _ _ _ _ _ _ _ _ _ _ (object (g.D.HasPages.pages c.args.document.now)) refl refl c.loop-index.invariant c.in_ok-put_object.ensures

pub returns : goal.returns
returns g c =
    let end : c.loop-index.index ≡ c.args.objects = omega arith in
    rw (← end) c.loop-index.invariant
