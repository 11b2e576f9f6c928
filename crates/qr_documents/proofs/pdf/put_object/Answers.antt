use Rattle.qr_devices.proofs.Facts.{formed, stops-between, stops-first, writes-on, writes-stop}
use Rattle.qr_documents.specs.Pdf.{numbered_object, object, object_start}
use Rattle.std.proofs.{Common.{◌≡◌, ◌+◌, ◌++◌, append_assoc}, lemmas.Result.err_from_is_err_and}
use Rattle.qr_documents.proofs.pdf.put_object.Goals as goal

pub returns-in_err-put_content : goal.returns-in_err-put_content
unfolding object numbered_object object_start
returns-in_err-put_content g c =
    let held = c.args.pen.now.piece in
    let start : c.push_all.new.self ≡ c.reserve.new.self.piece ++ object_start (c.args.index + 1) = rw (c.push_all.ensures.items, c.push_number.ensures.items) (simp append_assoc) in
    rw ((err_from_is_err_and c.from_residual-in_err-put_content.result c.from_residual-in_err-put_content.ensures.1).1) (stops-first _ _ _ held _ _ (writes-stop _ _ _ _ _ held _ _ _
    (formed _ _ _ _ held _ _ _ c.in_ok-reserve.ensures.writes start) c.in_err-put_content.ensures))

pub returns-in_err-reserve-2 : goal.returns-in_err-reserve-2
unfolding object numbered_object object_start
returns-in_err-reserve-2 g c =
    let held = c.args.pen.now.piece in
    let start : c.push_all.new.self ≡ c.reserve.new.self.piece ++ object_start (c.args.index + 1) = rw (c.push_all.ensures.items, c.push_number.ensures.items) (simp append_assoc) in
    rw ((err_from_is_err_and c.from_residual-in_err-reserve-2.result c.from_residual-in_err-reserve-2.ensures.1).1) (stops-between _ _ _ _ _ held _ _ _ (writes-on _ _ _ _ _ _ held _ _ _ _
    (formed _ _ _ _ held _ _ _ c.in_ok-reserve.ensures.writes start) c.in_ok-put_content.ensures) c.in_err-reserve-2.ensures.writes)

pub returns : goal.returns
unfolding object numbered_object object_start
returns g c =
    let held = c.args.pen.now.piece in
    let start : c.push_all.new.self ≡ c.reserve.new.self.piece ++ object_start (c.args.index + 1) = rw (c.push_all.ensures.items, c.push_number.ensures.items) (simp append_assoc) in
    writes-on _ _ _ _ _ _ held _ _ _ _ (writes-on _ _ _ _ _ _ held _ _ _ _
    (formed _ _ _ _ held _ _ _ c.in_ok-reserve.ensures.writes start) c.in_ok-put_content.ensures)
    (formed _ _ _ _ _ _ _ _ c.in_ok-reserve-2.ensures.writes c.push_all-2.ensures.items)
