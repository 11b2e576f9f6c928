use Rattle.qr_devices.proofs.Facts.{formed, stops-before, stops-between, stops-first, writes-on, writes-stop}
use Rattle.qr_drawing.specs.Svg.{numbered}
use Rattle.qr_documents.proofs.lemmas.pdf.{tree-parts}
use Rattle.std.proofs.{Common.{◌≡◌, ◌++◌, append_assoc, codes}, lemmas.Result.err_from_is_err_and}
use Rattle.qr_documents.proofs.pdf.put_page_tree.Goals as goal

pub returns-in_err-reserve : goal.returns-in_err-reserve
returns-in_err-reserve g c = rw ((err_from_is_err_and c.from_residual.result c.from_residual.ensures.1).1) (stops-before _ _ _ _ _ c.in_err-reserve.ensures.writes)

pub returns-in_err-put_kids : goal.returns-in_err-put_kids
returns-in_err-put_kids g c =
    let held = c.args.pen.now.piece in
    rw ((err_from_is_err_and c.from_residual-in_err-put_kids.result c.from_residual-in_err-put_kids.ensures.1).1, tree-parts c.args.pages) (stops-first _ _ _ held _ _ (writes-stop _ _ _ _ _ held _ _ _
    (formed _ _ _ _ held _ _ _ c.in_ok-reserve.ensures.writes c.push_all.ensures.items) c.in_err-put_kids.ensures))

pub returns-in_err-reserve-2 : goal.returns-in_err-reserve-2
returns-in_err-reserve-2 g c =
    let held = c.args.pen.now.piece in
    rw ((err_from_is_err_and c.from_residual-in_err-reserve-2.result c.from_residual-in_err-reserve-2.ensures.1).1, tree-parts c.args.pages) (stops-between _ _ _ _ _ held _ _ _ (writes-on _ _ _ _ _ _ held _ _ _ _
    (formed _ _ _ _ held _ _ _ c.in_ok-reserve.ensures.writes c.push_all.ensures.items) c.in_ok-put_kids.ensures) c.in_err-reserve-2.ensures.writes)

pub returns : goal.returns
returns g c =
    let held = c.args.pen.now.piece in
    let end : c.push_all-2.new.self ≡ c.reserve-2.new.self.piece ++ (numbered (codes "]/Count ") c.args.pages ++ codes ">>") =
    rw (c.push_all-2.ensures.items, c.push_numbered.ensures.items) (simp append_assoc) in
    rw (tree-parts c.args.pages) (writes-on _ _ _ _ _ _ held _ _ _ _ (writes-on _ _ _ _ _ _ held _ _ _ _
    (formed _ _ _ _ held _ _ _ c.in_ok-reserve.ensures.writes c.push_all.ensures.items) c.in_ok-put_kids.ensures)
    (formed _ _ _ _ _ _ _ _ c.in_ok-reserve-2.ensures.writes end))
