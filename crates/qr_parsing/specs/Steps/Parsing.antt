-- What the parser finds in a text: the only type, margin and squares whose drawing the text can be. The parser then
-- draws these squares, to compare the result with the text.
use Rattle.std.specs.Prelude.{◌≡◌, ℕ, ◌<◌, ◌≤◌, List, length}
use Rattle.std.specs.List.{All}
use Rattle.qr_matrix.specs.Grid.{Grid, IsSquare}
use Rattle.qr_drawing.specs.Drawing.{HaveOneSide}
use Rattle.qr_drawing.specs.declared.drawing.Drawing.{Drawing}
use Rattle.qr_parsing.specs.Parsing.{IsDrawingOf}

-- The squares can be drawn: there are 1 to 16, all have the same side, and each has as many rows as its side
pub record CanBeDrawn (squares : List Grid) : Type 0 where
  pub some : 0 < length squares
  pub few : length squares ≤ 16
  pub one_side : HaveOneSide squares
  pub whole : All (λ g. IsSquare g.side g) squares

-- If `text` is a drawing at all, it is the drawing of `squares`, of the type `kind` and with the margin `margin`. The
-- squares can be drawn, even if `text` is no drawing
pub record IsGuess (kind : Drawing) (margin : ℕ) (squares : List Grid) (text : List ℕ) : Type 0 where
  pub drawable : CanBeDrawn squares
  pub only : (k : Drawing) (m : ℕ) (s : List Grid) → IsDrawingOf k m s text → (k ≡ kind) × (m ≡ margin) × (s ≡ squares)
