-- Two pieces of the text of an SVG document: what comes before the boxes of its path, and the end of a box. A box is a part
-- of the path, a rectangle that shows a run of dark modules.
use Rattle.std.specs.Prelude.{ℕ, List, ◌++◌, codes}
use Rattle.qr_drawing.specs.Svg.{background, declaration, numbered, opening}

-- All lines of the document before the line with the path, and the beginning of this line
unfoldable pub head : ℕ → ℕ → List ℕ
head width height = declaration ++ opening width height ++ background width height ++ codes "<path fill=\"#000000\" d=\""

-- The end of the text of a box that is `modules` modules wide. The beginning, which gives the box's column and row, is
-- left out
unfoldable pub width_path : ℕ → List ℕ
width_path modules = numbered (codes "h") modules ++ numbered (codes "v1h-") modules ++ codes "z"
