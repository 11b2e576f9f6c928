use Rattle.std.proofs.Common.{◌++◌, ◌∷◌, [], map}
use Rattle.qr_drawing.specs.{Raster.texts_below, Svg.square_at, Text.cells_of_line, Text.text_drawing}
use Rattle.qr_devices.specs.Writing.{Writes}
use Rattle.qr_drawing.proofs.text.put_texts.Given as goal

abbrev pub invariant-loop-symbol : goal.invariant-loop-symbol
invariant-loop-symbol g l = Writes (g.W.Sink.device l.fn.out) (g.W.Sink.device l.out)
    l.fn.pen.interrupted l.pen.interrupted
    (l.fn.pen.piece ++ texts_below l.symbol-index (λ k. text_drawing l.style l.margin (square_at (map g.S.HasSquare.grid l.symbols) k))) l.pen.piece

abbrev pub invariant-loop-y : goal.invariant-loop-y
invariant-loop-y g l = Writes (g.W.Sink.device l.fn.out) (g.W.Sink.device l.out)
    l.fn.pen.interrupted l.pen.interrupted
    ((l.fn.pen.piece ++ texts_below l.symbol-index (λ k. text_drawing l.style l.margin (square_at (map g.S.HasSquare.grid l.symbols) k)))
    ++ texts_below l.y (λ y. cells_of_line l.style l.margin l.square y ++ 10 ∷ [])) l.pen.piece
