use Rattle.{qr_drawing.specs.Raster.texts_below, qr_documents.proofs.lemmas.pdf.kid, std.proofs.Common.{◌≡◌, ◌≤◌, ◌*◌, length}}
use Rattle.qr_documents.proofs.pdf.page_tree_length.Given as goal

abbrev pub invariant-loop-page : goal.invariant-loop-page
invariant-loop-page l = record {
  kids : l.kids ≡ length (texts_below l.page kid);
  low : l.kids ≤ 25 * l.page;
}
