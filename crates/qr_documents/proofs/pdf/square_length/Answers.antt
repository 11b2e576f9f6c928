use Rattle.std.proofs.Common.{◌≡◌, refl, ap, arith, length}
use Rattle.qr_documents.specs.Pdf.{square_start}
use Rattle.qr_drawing.specs.Raster.{raster_width}
use Rattle.qr_documents.proofs.lemmas.pdf.{square-length}
use Rattle.qr_documents.proofs.pdf.square_length.Goals as goal

pub returns-clause-value : goal.returns-clause-value
returns-clause-value c =
    let margin = c.args.raster.now.margin in
    let square = c.args.raster.now.matrix.now in
    let start : c.push_square_start.new.text ≡ square_start c.args.colours c.args.micrometres c.args.corner.now (raster_width margin square) =
    rw (c.push_square_start.ensures.items, c.empty-start.ensures, c.width.ensures.value) refl in
    omega (arith, ap length start, c.len.ensures.value, c.lines_length.ensures.value, c.from.ensures, square-length c.args.colours c.args.micrometres margin c.args.corner.now square)
