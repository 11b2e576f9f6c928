use Rattle.{qr_devices.specs.Writing.Writes, qr_drawing.specs.Raster.texts_below, qr_documents.proofs.lemmas.pdf.kid, std.proofs.Common.{◌++◌}}
use Rattle.qr_documents.proofs.pdf.put_kids.Given as goal

abbrev pub invariant-loop-page : goal.invariant-loop-page
invariant-loop-page g l = Writes (g.W.Sink.device l.fn.out) (g.W.Sink.device l.out)
    l.fn.pen.interrupted l.pen.interrupted (l.fn.pen.piece ++ texts_below l.page kid) l.pen.piece
