use Rattle.std.proofs.Common.{◌≡◌, ◌≤◌, ◌*◌, ◌++◌, map}
use Rattle.qr_drawing.specs.{Raster.{raster_width, texts_below}, Svg.{square_at, symbol_path}}
use Rattle.qr_devices.specs.Writing.{Writes}
use Rattle.qr_drawing.proofs.svg.put_stack.Given as goal

abbrev pub invariant-loop-symbol : goal.invariant-loop-symbol
invariant-loop-symbol g l = record {
  top : l.top ≡ l.symbol-index * raster_width l.margin (square_at (map g.S.HasSquare.grid l.symbols) 0);
  low : l.top ≤ 1000 * l.symbol-index;
  writes :
      Writes (g.W.Sink.device l.fn.out) (g.W.Sink.device l.out)
      l.fn.pen.interrupted l.pen.interrupted
      (l.fn.pen.piece ++ texts_below l.symbol-index
      (λ k. symbol_path (k * raster_width l.margin (square_at (map g.S.HasSquare.grid l.symbols) k)) l.margin (square_at (map g.S.HasSquare.grid l.symbols) k)))
      l.pen.piece;
}
