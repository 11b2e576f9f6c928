use Rattle.std.{proofs.Common.{◌≡◌, ◌≤◌, ◌<◌, ◌+◌, ◌++◌}, specs.List.{All, flat_map}}
use Rattle.qr_devices.specs.Writing.{Writes}
use Rattle.qr_documents.{specs.Boxes.row_lines, proofs.lemmas.boxes.line_of}
use Rattle.qr_documents.proofs.boxes.put_row_lines.Given as goal

abbrev pub invariant-loop-run : goal.invariant-loop-run
invariant-loop-run g l = record {
  within : All (λ run. (run.start < run.end) × (run.end ≤ l.raster.matrix.now.side)) l.run-iterator;
  lines : row_lines l.ending l.row.up l.raster.margin l.raster.matrix.now (l.raster.margin + l.row.index) ≡ flat_map (line_of l.ending l.row.up l.raster.margin) (l.yielded ++ l.run-iterator);
  writes :
      Writes (g.W.Sink.device l.fn.out) (g.W.Sink.device l.out)
      l.fn.pen.interrupted l.pen.interrupted (l.fn.pen.piece ++ flat_map (line_of l.ending l.row.up l.raster.margin) l.yielded) l.pen.piece;
}
