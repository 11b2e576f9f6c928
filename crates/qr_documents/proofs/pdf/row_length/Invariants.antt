use Rattle.std.{proofs.Common.{◌≡◌, ◌≤◌, ◌<◌, ◌+◌, ◌*◌, ◌++◌, codes, length}, specs.List.{All, flat_map}}
use Rattle.qr_documents.{specs.Boxes.row_lines, proofs.lemmas.boxes.line_of}
use Rattle.qr_documents.proofs.pdf.row_length.Given as goal

abbrev pub invariant-loop-run : goal.invariant-loop-run
invariant-loop-run l = record {
  within : All (λ run. (run.start < run.end) × (run.end ≤ l.raster.matrix.now.side)) l.run-iterator;
  few : length (l.yielded ++ l.run-iterator) ≤ 177;
  lines : row_lines (codes " 1 re\n") l.up l.raster.margin l.raster.matrix.now (l.raster.margin + l.row) ≡ flat_map (line_of (codes " 1 re\n") l.up l.raster.margin) (l.yielded ++ l.run-iterator);
  len : l.len ≡ length (flat_map (line_of (codes " 1 re\n") l.up l.raster.margin) l.yielded);
  low : l.len ≤ 17 * length l.yielded;
}
