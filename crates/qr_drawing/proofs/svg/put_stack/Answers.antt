use Rattle.std.proofs.{Common.{refl, arith}, lemmas.Result.err_from_is_err_and}
use Rattle.qr_drawing.proofs.lemmas.{text.LineLemmas.{no-texts, put-next, put-none, put-stops}, svg.{next-top, stack-at, stack-ends}}
use Rattle.qr_drawing.proofs.svg.put_stack.Goals as goal

pub loop-symbol-init : goal.loop-symbol-init
loop-symbol-init g c = record { top = omega arith; low = omega arith; writes = put-none _ _ _ _ _ (no-texts _) }

pub returns-in_err-put_symbol : goal.returns-in_err-put_symbol
returns-in_err-put_symbol g c =
    let here = stack-at g.S.HasSquare.grid c.args.margin c.loop-symbol.symbol-index c.loop-symbol.top c.args.symbols.now c.symbol-item.result
    c.requires.one_side c.loop-symbol-test.true c.symbol-item.is c.loop-symbol.invariant.top in
    rw ((err_from_is_err_and c.from_residual.result c.from_residual.ensures.1).1, stack-ends g.S.HasSquare.grid c.args.margin _ c.args.symbols.now refl)
    (put-stops _ _ _ _ _ _ _ _ _ _ _ here c.loop-symbol-test.true c.loop-symbol.invariant.writes (rw c.square.ensures at c.in_err-put_symbol.ensures))

pub loop-symbol-preserved : goal.loop-symbol-preserved
loop-symbol-preserved g c =
    let here = stack-at g.S.HasSquare.grid c.args.margin c.loop-symbol.symbol-index c.loop-symbol.top c.args.symbols.now c.symbol-item.result
    c.requires.one_side c.loop-symbol-test.true c.symbol-item.is c.loop-symbol.invariant.top in
    let low = c.loop-symbol.invariant.low in
    record {
      top = next-top g.S.HasSquare.grid c.args.margin c.loop-symbol.symbol-index c.loop-symbol.top _ c.args.symbols.now c.symbol-item.result
          c.requires.one_side c.loop-symbol-test.true c.symbol-item.is c.loop-symbol.invariant.top (rw c.square.ensures at c.width-top.ensures.value);
      low = omega arith;
      writes = put-next _ _ _ _ _ _ _ _ _ _ _ _ _ here refl c.loop-symbol.invariant.writes (rw c.square.ensures at c.in_ok-put_symbol.ensures);
    }

pub returns : goal.returns
returns g c = rw (stack-ends g.S.HasSquare.grid c.args.margin c.loop-symbol.symbol-index c.args.symbols.now (omega arith)) c.loop-symbol.invariant.writes
