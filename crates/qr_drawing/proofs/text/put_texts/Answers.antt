use Rattle.std.proofs.{Common.{◌≡◌, ◌++◌, ◌∷◌, [], map, ap, append-nil, refl, arith, rules}, lemmas.Result.err_from_is_err_and}
use Rattle.qr_drawing.specs.{Raster.raster_width, Svg.square_at, Text.{cells_of_line, line_count, text_drawing}}
use Rattle.qr_drawing.proofs.lemmas.text.LineLemmas.{no-texts, put-next, put-none, put-stops, put-whole, stops-at}
use Rattle.qr_drawing.proofs.lemmas.svg.{square_at-item, texts-of-symbols}
use Rattle.qr_drawing.proofs.text.put_texts.Goals as goal

pub loop-symbol-init : goal.loop-symbol-init
loop-symbol-init g c = put-none _ _ _ _ _ (no-texts _)

pub loop-y-init : goal.loop-y-init
loop-y-init g c = rw (no-texts, append-nil) c.loop-symbol.invariant

pub returns-in_err-put_line : goal.returns-in_err-put_line
returns-in_err-put_line g c =
    let p = err_from_is_err_and c.from_residual.result c.from_residual.ensures.1 in
    let lines : c.line_count-lines.result ≡ line_count c.args.style (raster_width c.args.margin c.square-square.result.now) = search rules in
    let here = ap (text_drawing c.args.style c.args.margin)
    (square_at-item g.S.HasSquare.grid c.args.symbols.now c.loop-symbol.symbol-index c.symbol-item.result c.loop-symbol-test.true c.symbol-item.is) in
    rw (p.1, texts-of-symbols g.S.HasSquare.grid (text_drawing c.args.style c.args.margin) c.args.symbols.now _ refl)
    (stops-at _ _ _ _ _ c.args.pen.now.piece _ (λ k. text_drawing c.args.style c.args.margin (square_at (map g.S.HasSquare.grid c.args.symbols.now) k)) here
    c.loop-symbol-test.true (rw c.square-square.ensures at (put-stops _ _ _ _ _ _ _ _ _ _ (λ y. cells_of_line c.args.style c.args.margin c.square-square.result.now y ++ 10 ∷ []) refl
    (rw lines at c.loop-y-test.true) c.loop-y.invariant c.in_err-put_line.ensures)))

pub loop-y-preserved : goal.loop-y-preserved
loop-y-preserved g c =
    put-next _ _ _ _ _ _ _ _ _ _ _ _ (λ y. cells_of_line c.args.style c.args.margin c.square-square.result.now y ++ 10 ∷ []) refl refl c.loop-y.invariant
    c.in_ok-put_line.ensures

pub loop-symbol-preserved : goal.loop-symbol-preserved
loop-symbol-preserved g c =
    let lines : c.line_count-lines.result ≡ line_count c.args.style (raster_width c.args.margin c.square-square.result.now) = search rules in
    let last : c.loop-y.y ≡ c.line_count-lines.result = omega arith in
    let here = ap (text_drawing c.args.style c.args.margin)
    (square_at-item g.S.HasSquare.grid c.args.symbols.now c.loop-symbol.symbol-index c.symbol-item.result c.loop-symbol-test.true c.symbol-item.is) in
    put-whole _ _ _ _ _ c.args.pen.now.piece _ _ (λ k. text_drawing c.args.style c.args.margin (square_at (map g.S.HasSquare.grid c.args.symbols.now) k)) here
    (rw (last, lines, c.square-square.ensures) at c.loop-y.invariant)

pub returns : goal.returns
returns g c =
    rw (texts-of-symbols g.S.HasSquare.grid (text_drawing c.args.style c.args.margin) c.args.symbols.now c.loop-symbol.symbol-index (omega arith)) c.loop-symbol.invariant
