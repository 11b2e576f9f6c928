use Rattle.std.proofs.Common.{◌≡◌, ◌≤◌, ◌-◌, ◌*◌, ◌++◌, length}
use Rattle.qr_drawing.specs.Raster.{texts_below}
use Rattle.qr_devices.specs.Writing.{Writes}
use Rattle.qr_documents.proofs.lemmas.documents.{lines_of_symbol}
use Rattle.qr_documents.proofs.eps.put_boxes.Given as goal

abbrev pub invariant-loop-symbol : goal.invariant-loop-symbol
invariant-loop-symbol g l = record {
  below : l.below ≡ (length l.symbols - l.symbol-index) * l.width;
  low : l.below ≤ 16000;
  writes :
      Writes (g.W.Sink.device l.fn.out) (g.W.Sink.device l.out)
      l.fn.pen.interrupted l.pen.interrupted
      (l.fn.pen.piece ++ texts_below l.symbol-index (lines_of_symbol g.S.HasSquare.grid l.margin l.symbols))
      l.pen.piece;
}
