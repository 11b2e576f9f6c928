use Rattle.{qr_drawing.specs.Raster.texts_below, qr_documents.proofs.lemmas.boxes.lines_at, std.proofs.Common.{◌≡◌, ◌≤◌, ◌+◌, ◌*◌, codes, length}}
use Rattle.qr_documents.proofs.pdf.lines_length.Given as goal

abbrev pub invariant-loop-row : goal.invariant-loop-row
invariant-loop-row l = record {
  len : l.len ≡ length (texts_below (l.raster.margin + l.row) (lines_at (codes " 1 re\n") 0 l.raster.margin l.raster.matrix.now));
  low : l.len ≤ 3009 * l.row;
}
