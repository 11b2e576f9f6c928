use Rattle.{qr_devices.specs.Writing.Writes, qr_drawing.specs.{Raster.texts_below, Svg.row_path}, std.proofs.Common.{◌+◌, ◌++◌}}
use Rattle.qr_drawing.proofs.svg.put_symbol.Given as goal

abbrev pub invariant-loop-row : goal.invariant-loop-row
invariant-loop-row g l = Writes (g.W.Sink.device l.fn.out) (g.W.Sink.device l.out)
    l.fn.pen.interrupted l.pen.interrupted (l.fn.pen.piece ++ texts_below (l.raster.margin + l.row) (row_path l.top l.raster.margin l.raster.matrix.now)) l.pen.piece
