-- What comes before the boxes of an SVG document with a size, and of an EPS document.
use Rattle.std.specs.Prelude.{ℕ, ◌*◌, List, ◌++◌, codes}
use Rattle.qr_documents.specs.Document.{opening_rest, opening_start, size_in_mm}
use Rattle.qr_documents.specs.Eps.{eps_comments, eps_start}
use Rattle.qr_drawing.specs.Svg.{background, declaration}

-- All lines of an SVG document before the line with the path, and the beginning of this line
unfoldable pub sized_head : ℕ → ℕ → ℕ → List ℕ
sized_head micrometres width height =
    declaration ++ (opening_start ++ size_in_mm micrometres width height ++ opening_rest width height)
    ++ background width height ++ codes "<path fill=\"#000000\" d=\""

-- All lines of an EPS document before the first box
unfoldable pub eps_head : ℕ → ℕ → ℕ → List ℕ
eps_head micrometres width height =
    eps_comments (width * micrometres) (height * micrometres) ++ eps_start micrometres width height
