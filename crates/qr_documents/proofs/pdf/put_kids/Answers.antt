use Rattle.qr_devices.proofs.Facts.{formed, stops-before}
use Rattle.qr_documents.proofs.lemmas.pdf.{kid}
use Rattle.qr_drawing.proofs.Facts.{no-texts, put-next, put-none, put-stops}
use Rattle.std.proofs.{Common.{◌≡◌, ◌++◌, append_assoc, arith, refl}, lemmas.Result.err_from_is_err_and}
use Rattle.qr_documents.proofs.pdf.put_kids.Goals as goal

pub loop-page-init : goal.loop-page-init
loop-page-init g c = put-none _ _ _ _ _ (no-texts _)

pub returns-in_err-reserve : goal.returns-in_err-reserve
returns-in_err-reserve g c =
    rw ((err_from_is_err_and c.from_residual.result c.from_residual.ensures.1).1)
    (put-stops _ _ _ _ _ _ _ _ _ _ kid refl (omega arith) c.loop-page.invariant (stops-before _ _ _ _ _ c.in_err-reserve.ensures.writes))

pub loop-page-preserved : goal.loop-page-preserved
loop-page-preserved g c =
    let one : c.push_all.new.self ≡ c.reserve.new.self.piece ++ kid c.loop-page.page = rw (c.push_all.ensures.items, c.push_numbered.ensures.items) (simp append_assoc) in
    put-next _ _ _ _ _ _ _ _ _ _ _ _ kid refl refl c.loop-page.invariant
    (formed _ _ _ _ c.loop-page.pen.piece _ _ _ c.in_ok-reserve.ensures.writes one)

pub returns : goal.returns
returns g c =
    let end : c.loop-page.page ≡ c.args.kids = omega arith in
    rw (← end) c.loop-page.invariant
