use Rattle.{qr_devices.specs.Writing.Writes, qr_documents.specs.Pdf.object, qr_drawing.specs.Raster.texts_below, std.proofs.Common.{◌++◌}}
use Rattle.qr_documents.proofs.pdf.put_each_object.Given as goal

abbrev pub invariant-loop-index : goal.invariant-loop-index
invariant-loop-index g l = Writes (g.W.Sink.device l.fn.out) (g.W.Sink.device l.out)
    l.fn.pen.interrupted l.pen.interrupted (l.fn.pen.piece ++ texts_below l.index (object (g.D.HasPages.pages l.document))) l.pen.piece
