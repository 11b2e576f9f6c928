use Rattle.std.proofs.{Common.{refl, arith, ◌≤◌, ◌-◌, ◌*◌, length}, Math.Nat.mul-le-mul_right, lemmas.Result.err_from_is_err_and}
use Rattle.qr_drawing.proofs.Facts.{no-texts, put-next, put-none, put-stops}
use Rattle.qr_documents.proofs.lemmas.documents.{boxes-at, boxes-end, lines_of_symbol, one-lower}
use Rattle.qr_documents.proofs.eps.put_boxes.Goals as goal

pub loop-symbol-init : goal.loop-symbol-init
loop-symbol-init g c =
    let most : c.args.width * length c.args.symbols.now ≤ 1000 * length c.args.symbols.now = mul-le-mul_right (length c.args.symbols.now) (omega arith) in
    record { below = search arith; low = omega arith; writes = put-none _ _ _ _ _ (no-texts _) }

pub overflow_sub-below : goal.overflow_sub-below
overflow_sub-below g c =
    omega (arith, one-lower _ _ _ c.args.width c.loop-symbol-test.true c.loop-symbol.invariant.below)

pub returns-in_err-put_lines : goal.returns-in_err-put_lines
returns-in_err-put_lines g c =
    let lower = one-lower _ _ _ c.args.width c.loop-symbol-test.true c.loop-symbol.invariant.below in
    let here = boxes-at g.S.HasSquare.grid c.args.margin c.loop-symbol.symbol-index (c.loop-symbol.below - c.args.width) c.args.width c.args.symbols.now c.symbol-item.result
    c.requires.one_side c.loop-symbol-test.true c.symbol-item.is c.requires.width (omega (arith, lower)) in
    rw ((err_from_is_err_and c.from_residual.result c.from_residual.ensures.1).1, boxes-end g.S.HasSquare.grid c.args.margin _ c.args.symbols.now refl)
    (put-stops _ _ _ _ _ _ _ _ _ _ (lines_of_symbol g.S.HasSquare.grid c.args.margin c.args.symbols.now) here c.loop-symbol-test.true c.loop-symbol.invariant.writes (rw c.square.ensures at c.in_err-put_lines.ensures))

pub loop-symbol-preserved : goal.loop-symbol-preserved
loop-symbol-preserved g c =
    let lower = one-lower _ _ _ c.args.width c.loop-symbol-test.true c.loop-symbol.invariant.below in
    let here = boxes-at g.S.HasSquare.grid c.args.margin c.loop-symbol.symbol-index (c.loop-symbol.below - c.args.width) c.args.width c.args.symbols.now c.symbol-item.result
    c.requires.one_side c.loop-symbol-test.true c.symbol-item.is c.requires.width (omega (arith, lower)) in
    let low = c.loop-symbol.invariant.low in
    record {
      below = omega (arith, lower);
      low = omega arith;
      writes = put-next _ _ _ _ _ _ _ _ _ _ _ _ (lines_of_symbol g.S.HasSquare.grid c.args.margin c.args.symbols.now) here refl c.loop-symbol.invariant.writes (rw c.square.ensures at c.in_ok-put_lines.ensures);
    }

pub returns : goal.returns
returns g c = rw (boxes-end g.S.HasSquare.grid c.args.margin c.loop-symbol.symbol-index c.args.symbols.now (omega arith)) c.loop-symbol.invariant.writes
