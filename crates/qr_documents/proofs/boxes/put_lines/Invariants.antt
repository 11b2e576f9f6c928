use Rattle.{qr_devices.specs.Writing.Writes, qr_drawing.specs.Raster.texts_below, qr_documents.proofs.lemmas.boxes.lines_at, std.proofs.Common.{◌+◌, ◌++◌}}
use Rattle.qr_documents.proofs.boxes.put_lines.Given as goal

abbrev pub invariant-loop-index : goal.invariant-loop-index
invariant-loop-index g l = Writes (g.W.Sink.device l.fn.out) (g.W.Sink.device l.out)
    l.fn.pen.interrupted l.pen.interrupted (l.fn.pen.piece ++ texts_below (l.raster.margin + l.index) (lines_at l.ending l.below l.raster.margin l.raster.matrix.now)) l.pen.piece
