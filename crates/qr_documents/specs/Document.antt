-- Which bytes are written for print, for each format. A module is `micrometres` micrometres wide and high.
use Rattle.std.specs.Prelude.{ℕ, ◌*◌, List, ◌++◌, codes, length, Option}
use Rattle.qr_matrix.specs.Grid.{Grid}
use Rattle.qr_matrix.specs.Raster.{raster_width}
use Rattle.qr_documents.specs.declared.colours.Colours.{Colours}
use Rattle.qr_documents.specs.declared.document.Document.{Document}
use Rattle.qr_documents.specs.declared.document.Document.TheVariants.{Eps, Pdf, Svg}
use Rattle.qr_documents.specs.declared.document.DocumentSettings.{DocumentSettings}
use Rattle.qr_documents.specs.Eps.{eps_document}
use Rattle.qr_documents.specs.Measures.{millimetres}
use Rattle.qr_documents.specs.Pdf.{pdf_document}
use Rattle.qr_drawing.specs.Svg.{background, closing, declaration, foreground, numbered, square_at}

-- The beginning of the line that opens an SVG document, up to the version of SVG [own]
unfoldable pub opening_start : List ℕ
opening_start = codes "<svg xmlns=\"http://www.w3.org/2000/svg\" version=\"1.1\""

-- The size of an SVG document that is `width` modules wide and `height` modules high [own]
unfoldable pub size_in_mm : ℕ → ℕ → ℕ → List ℕ
size_in_mm micrometres width height =
    codes " width=\"" ++ millimetres (width * micrometres) ++ codes "mm\" height=\"" ++ millimetres (height * micrometres) ++ codes "mm\""

-- The rest of the line that opens an SVG document [own]
unfoldable pub opening_rest : ℕ → ℕ → List ℕ
opening_rest width height =
    numbered (codes " viewBox=\"0 0 ") width ++ numbered (codes " ") height ++ codes "\" shape-rendering=\"crispEdges\">\n"

-- The SVG document of symbols of equal size, one below the other, with a size in millimetres [own]
unfoldable pub sized_svg : ℕ → ℕ → List Grid → List ℕ
sized_svg micrometres margin squares =
    let width = raster_width margin (square_at squares 0) in
    let height = width * length squares in
    declaration ++ (opening_start ++ size_in_mm micrometres width height ++ opening_rest width height)
    ++ background width height ++ foreground margin squares ++ closing

-- The document in this format. The colours are those of a PDF document; SVG and EPS documents are black on white [own]
abbrev pub document_in : Document → Option Colours → ℕ → ℕ → List Grid → List ℕ
document_in Svg colours micrometres margin squares = sized_svg micrometres margin squares
document_in Eps colours micrometres margin squares = eps_document micrometres margin squares
document_in Pdf colours micrometres margin squares = pdf_document colours micrometres margin squares

-- The document of the squares, as its settings say. Around each square is a light margin [own]
abbrev pub document : DocumentSettings → List Grid → List ℕ
document s squares = document_in s.format s.colours s.micrometres s.margin squares
