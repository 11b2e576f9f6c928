-- What laws say of documents for print. `micrometres` is the width of a module, and `margin` the number of light modules on
-- each side.
use Rattle.std.specs.Prelude.{◌≡◌, ℕ, ◌*◌, ◌<◌, List, ◌++◌, codes, length}
use Rattle.qr_matrix.specs.Grid.{Grid}
use Rattle.qr_matrix.specs.Raster.{raster_width}
use Rattle.qr_drawing.specs.Svg.{declaration, square_at, svg_document}
use Rattle.qr_documents.specs.Document.{opening_start, size_in_mm, sized_svg}
use Rattle.qr_documents.specs.Pdf.{Pages, document_of_pages, object, object_count, objects_below}

-- In the document, `text` comes after the first `place` bytes [own]
abbrev pub Contains : ℕ → List ℕ → List ℕ → Type 0
Contains place text document = (before after : List ℕ) × (document ≡ before ++ (text ++ after)) × (length before ≡ place)

-- Each object of a PDF document begins where the table says, and the table begins where the trailer says [own]
pub record HasItsPlaces (p : Pages) : Type 0 where
  pub objects : (i : ℕ) → i < object_count p → Contains (length (objects_below p i)) (object p i) (document_of_pages p)
  pub table : Contains (length (objects_below p (object_count p))) (codes "xref\n0 ") (document_of_pages p)

-- An SVG document with a size is the SVG document without it, in which the size was put after the beginning of the line
-- that opens the document [own]
pub record IsSizedAlone (micrometres margin : ℕ) (squares : List Grid) : Type 0 where
  pub rest : List ℕ
  pub without : svg_document margin squares ≡ (declaration ++ opening_start) ++ rest
  pub sized :
      sized_svg micrometres margin squares ≡ (declaration ++ opening_start)
      ++ (size_in_mm micrometres (raster_width margin (square_at squares 0)) (raster_width margin (square_at squares 0) * length squares) ++ rest)
