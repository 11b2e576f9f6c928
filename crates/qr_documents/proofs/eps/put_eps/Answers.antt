use Rattle.qr_devices.proofs.Facts.{formed, stops-before, stops-between, stops-first, writes-on, writes-stop}
use Rattle.qr_documents.{proofs.lemmas.documents.eps-parts, specs.Eps.eps_end}
use Rattle.std.proofs.{Common.refl, lemmas.Result.err_from_is_err_and}
use Rattle.qr_documents.proofs.eps.put_eps.Goals as goal

pub returns-in_err-reserve : goal.returns-in_err-reserve
returns-in_err-reserve g c = rw ((err_from_is_err_and c.from_residual.result c.from_residual.ensures.1).1) (stops-before _ _ _ _ _ c.in_err-reserve.ensures.writes)

pub returns-in_err-put_boxes : goal.returns-in_err-put_boxes
returns-in_err-put_boxes g c =
    let held = c.args.pen.now.piece in
    let parts = eps-parts g.S.HasSquare.grid c.args.margin c.args.micrometres c.width-width.result _ c.args.symbols.now c.index-symbols-0.result c.requires.some
    (rw (c.square.ensures, c.index-symbols-0.is) at c.width-width.ensures.value) refl in
    rw ((err_from_is_err_and c.from_residual-in_err-put_boxes.result c.from_residual-in_err-put_boxes.ensures.1).1, parts) (stops-first _ _ _ held _ _ (writes-stop _ _ _ _ _ held _ _ _
    (formed _ _ _ _ held _ _ _ c.in_ok-reserve.ensures.writes c.push_head.ensures.items) c.in_err-put_boxes.ensures))

pub returns-in_err-reserve-2 : goal.returns-in_err-reserve-2
returns-in_err-reserve-2 g c =
    let held = c.args.pen.now.piece in
    let parts = eps-parts g.S.HasSquare.grid c.args.margin c.args.micrometres c.width-width.result _ c.args.symbols.now c.index-symbols-0.result c.requires.some
    (rw (c.square.ensures, c.index-symbols-0.is) at c.width-width.ensures.value) refl in
    rw ((err_from_is_err_and c.from_residual-in_err-reserve-2.result c.from_residual-in_err-reserve-2.ensures.1).1, parts) (stops-between _ _ _ _ _ held _ _ _ (writes-on _ _ _ _ _ _ held _ _ _ _
    (formed _ _ _ _ held _ _ _ c.in_ok-reserve.ensures.writes c.push_head.ensures.items) c.in_ok-put_boxes.ensures) c.in_err-reserve-2.ensures.writes)

pub returns : goal.returns
unfolding eps_end
returns g c =
    let held = c.args.pen.now.piece in
    let parts = eps-parts g.S.HasSquare.grid c.args.margin c.args.micrometres c.width-width.result _ c.args.symbols.now c.index-symbols-0.result c.requires.some
    (rw (c.square.ensures, c.index-symbols-0.is) at c.width-width.ensures.value) refl in
    rw parts (writes-on _ _ _ _ _ _ held _ _ _ _ (writes-on _ _ _ _ _ _ held _ _ _ _
    (formed _ _ _ _ held _ _ _ c.in_ok-reserve.ensures.writes c.push_head.ensures.items) c.in_ok-put_boxes.ensures)
    (formed _ _ _ _ _ _ _ eps_end c.in_ok-reserve-2.ensures.writes c.push_all.ensures.items))
