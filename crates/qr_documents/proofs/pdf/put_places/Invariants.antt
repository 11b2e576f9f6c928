use Rattle.{qr_devices.specs.Writing.Writes, qr_documents.specs.Pdf.{objects_below, place_of}, qr_drawing.specs.Raster.texts_below, std.proofs.Common.{◌≡◌, ◌≤◌, ◌+◌, ◌*◌, ◌++◌, length}}
use Rattle.qr_documents.proofs.pdf.put_places.Given as goal

abbrev pub invariant-loop-index : goal.invariant-loop-index
invariant-loop-index g l = record {
  at : l.at ≡ length (objects_below (g.D.HasPages.pages l.document) l.index);
  low : l.at ≤ 9 + 40000000200 * l.index;
  writes :
      Writes (g.W.Sink.device l.fn.out) (g.W.Sink.device l.out)
      l.fn.pen.interrupted l.pen.interrupted (l.fn.pen.piece ++ texts_below l.index (place_of (g.D.HasPages.pages l.document))) l.pen.piece;
}
