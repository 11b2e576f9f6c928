-- The EPS document of symbols, drawn one below the other. A module is `micrometres` micrometres wide and high.
use Rattle.std.specs.Prelude.{ℕ, ◌+◌, ◌-◌, ◌*◌, List, ◌++◌, codes, length}
use Rattle.qr_matrix.specs.Grid.{Grid}
use Rattle.qr_matrix.specs.Raster.{raster_width}
use Rattle.qr_documents.specs.Boxes.{symbol_lines}
use Rattle.qr_documents.specs.Measures.{points, whole_points}
use Rattle.qr_drawing.specs.Raster.{texts_below}
use Rattle.qr_drawing.specs.Svg.{numbered, square_at}

-- The comments before the drawing: the size of the document in points, and the level of PostScript (Encapsulated
-- PostScript File Format Specification, version 3.0)
unfoldable pub eps_comments : ℕ → ℕ → List ℕ
eps_comments width height =
    codes "%!PS-Adobe-3.0 EPSF-3.0\n%%BoundingBox: 0 0 " ++ whole_points width ++ codes " " ++ whole_points height
    ++ codes "\n%%HiResBoundingBox: 0 0 " ++ points width ++ codes " " ++ points height
    ++ codes "\n%%LanguageLevel: 2\n%%EndComments\n"

-- The lines that make a module the unit, make a document of `width` by `height` modules white, and define the command
-- `b`, which makes a box black [own]
unfoldable pub eps_start : ℕ → ℕ → ℕ → List ℕ
eps_start micrometres width height =
    codes "gsave\n" ++ points micrometres ++ numbered (codes " dup scale\n1 setgray 0 0 ") width ++ numbered (codes " ") height
    ++ codes " rectfill\n0 setgray\n/b { 1 rectfill } bind def\n"

-- The boxes of all symbols. Below the raster with the index `k`, counted from 0, are the rasters that come after it. The
-- definition is used for squares of one side, so all rasters are equally high [own]
unfoldable pub eps_boxes : ℕ → List Grid → List ℕ
eps_boxes margin squares =
    texts_below (length squares)
    (λ k. symbol_lines (codes " b\n") ((length squares - (k + 1)) * raster_width margin (square_at squares k)) margin (square_at squares k))

-- The last lines [own]
unfoldable pub eps_end : List ℕ
eps_end = codes "grestore\n%%EOF\n"

-- The EPS document of symbols of equal size, one below the other. It is as wide as one raster, and as high as all
-- rasters together [own]
unfoldable pub eps_document : ℕ → ℕ → List Grid → List ℕ
eps_document micrometres margin squares =
    let width = raster_width margin (square_at squares 0) in
    let height = width * length squares in
    eps_comments (width * micrometres) (height * micrometres) ++ eps_start micrometres width height ++ eps_boxes margin squares ++ eps_end
