-- What `qrproved_parse_drawing` writes for a text, and when its buffer is too short.
use Rattle.std.specs.Prelude.{◌≡◌, ℕ, ◌*◌, ◌<◌, List, length}
use Rattle.qr_matrix.specs.Grid.{Grid}
use Rattle.qr_drawing.specs.declared.drawing.Drawing.{Drawing}
use Rattle.qr_drawing.specs.Svg.{square_at}
use Rattle.qr_parsing.specs.Parsing.{IsDrawingOf}
use Rattle.qrproved.specs.declared.parsing.QrprovedDrawn.{QrprovedDrawn}
use Rattle.qrproved.specs.Drawing.{drawing_of}
use Rattle.qrproved.specs.Modules.{HoldsSquares}

-- The text is a drawing of squares, and the modules of these squares were written to the buffer. `d` has the number of
-- squares, their side, the type of the drawing and its margin [own]
pub record IsGivenDrawing (text : List ℕ) (before after : List ℕ) (d : QrprovedDrawn) : Type 0 where
  pub squares : List Grid
  pub number : d.drawing < 4
  pub drawing : IsDrawingOf (drawing_of d.drawing) d.margin squares text
  pub count : d.count ≡ length squares
  pub side : d.side ≡ (square_at squares 0).side
  pub holds : HoldsSquares d.side squares before after

-- The text is a drawing of squares, and these together have more modules than `buffer` has bytes [own]
pub record HasMoreModules (text buffer : List ℕ) : Type 0 where
  pub kind : Drawing
  pub margin : ℕ
  pub squares : List Grid
  pub drawing : IsDrawingOf kind margin squares text
  pub room : length buffer < length squares * ((square_at squares 0).side * (square_at squares 0).side)
