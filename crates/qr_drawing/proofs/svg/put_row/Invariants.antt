use Rattle.std.{proofs.Common.{◌≡◌, ◌≤◌, ◌<◌, ◌+◌, ◌++◌}, specs.List.{All, flat_map}}
use Rattle.qr_devices.specs.Writing.{Writes}
use Rattle.qr_drawing.{specs.Svg.row_path, proofs.lemmas.svg.box_of}
use Rattle.qr_drawing.proofs.svg.put_row.Given as goal

abbrev pub invariant-loop-run : goal.invariant-loop-run
invariant-loop-run g l = record {
  within : All (λ run. (run.start < run.end) × (run.end ≤ l.raster.matrix.now.side)) l.run-iterator;
  path : row_path l.top l.raster.margin l.raster.matrix.now (l.raster.margin + l.row) ≡ flat_map (box_of l.top l.raster.margin l.row) (l.yielded ++ l.run-iterator);
  writes :
      Writes (g.W.Sink.device l.fn.out) (g.W.Sink.device l.out)
      l.fn.pen.interrupted l.pen.interrupted (l.fn.pen.piece ++ flat_map (box_of l.top l.raster.margin l.row) l.yielded) l.pen.piece;
}
