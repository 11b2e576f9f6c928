-- Which texts are drawings of squares. The squares need not be symbols, but two of their modules have the colours that
-- they have in every symbol (`BeginsAsSymbol`).
use Rattle.std.specs.Prelude.{◌≡◌, ℕ, ◌<◌, ◌≤◌, List, length, true, false}
use Rattle.std.specs.List.{All}
use Rattle.qr_matrix.specs.Grid.{Grid, IsSquare, colour}
use Rattle.qr_drawing.specs.Drawing.{HaveOneSide, drawn}
use Rattle.qr_drawing.specs.declared.drawing.Drawing.{Drawing}

-- A square of 8 to 177 modules on a side in which two modules are as in every symbol. The module at the top left is
-- dark, since it is in a finder pattern. The module in column 7 of row 0 is light, since it is in the separator of this
-- pattern (ISO/IEC 18004:2015, 6.3.3, 6.3.4)
pub record BeginsAsSymbol (g : Grid) : Type 0 where
  pub least : 8 ≤ g.side
  pub most : g.side ≤ 177
  pub whole : IsSquare g.side g
  pub corner : colour g 0 0 ≡ true
  pub separator : colour g 0 7 ≡ false

-- `text` is the drawing of the squares, of this type and with this margin of at most 255 modules. There are 1 to 16
-- squares, which have the same side and begin as symbols do (`BeginsAsSymbol`) [own]
pub record IsDrawingOf (kind : Drawing) (margin : ℕ) (squares : List Grid) (text : List ℕ) : Type 0 where
  pub some : 0 < length squares
  pub few : length squares ≤ 16
  pub margin_in : margin ≤ 255
  pub one_side : HaveOneSide squares
  pub begin : All BeginsAsSymbol squares
  pub is_drawn : text ≡ drawn kind margin squares

-- The text is no drawing: no type, margin and squares have it as their drawing [own]
abbrev pub IsNoDrawing : List ℕ → Type 0
IsNoDrawing text = (kind : Drawing) (margin : ℕ) (squares : List Grid) → IsDrawingOf kind margin squares text → ⊥
