-- What `qrproved_draw_row` writes, and when it refuses a buffer as too short. It writes one line of the text that
-- `qrproved_draw` writes of a square of `side` rows. The lines are counted from 0, and `row` is the number of this line.
-- The first bits of the buffer `bits` are the modules, row by row.
use Rattle.std.specs.Prelude.{◌≡◌, ℕ, ◌+◌, ◌*◌, ◌<◌, ◌≤◌, ◌==◌, if◌then◌else◌, List, [], ◌∷◌, length}
use Rattle.qr_matrix.specs.Grid.{Grid}
use Rattle.qr_drawing.specs.Raster.{texts_below}
use Rattle.qr_drawing.specs.declared.text.TextStyle.{TextStyle}
use Rattle.qr_drawing.specs.declared.text.TextStyle.TheVariants.{Plain, Inverse, HalfBlocks}
use Rattle.qr_drawing.specs.Text.{line_count, line_of}
use Rattle.qrproved.specs.Bits.{HoldsBits, bytes_of_bits, square_of_bits}
use Rattle.qrproved.specs.Drawing.{drawing_of_bytes}
use Rattle.qrproved.specs.Modules.{HoldsSquares}

-- The style of the text that the number `n` of a caller means: 0 is ASCII, 1 is inverse ASCII and 2 is UTF8. Numbers
-- above 2 are out of range [own]
abbrev pub style_of : ℕ → TextStyle
style_of n = if n == 0 then Plain else (if n == 1 then Inverse else HalfBlocks)

-- The number of lines of the text [own]
abbrev pub row_count : (side drawing margin : ℕ) → ℕ
row_count side drawing margin = line_count (style_of drawing) (2 * margin + side)

-- The numbers are in range. Of their bounds, 177 is the side of version 40 in modules, and 100 is the greatest margin of
-- the command [own]
abbrev pub AreRowSettings : (side drawing margin row : ℕ) → Type 0
AreRowSettings side drawing margin row =
    (1 ≤ side) × (side ≤ 177) × (drawing < 3) × (margin ≤ 100) × (row < row_count side drawing margin)

-- Line `row` of the text of the square that the first bits of `bits` give, with the newline at its end [own]
abbrev pub row_of_bits : (side drawing margin row : ℕ) → List ℕ → List ℕ
row_of_bits side drawing margin row bits = line_of (style_of drawing) margin (square_of_bits side bits) row

-- The numbers are in range, but `bits` has fewer bits than the square has modules [own]
pub record HasFewBits (bits : List ℕ) (side drawing margin row : ℕ) : Type 0 where
  pub settings : AreRowSettings side drawing margin row
  pub few : length bits < bytes_of_bits side

-- The numbers are in range and `bits` has enough bits, but `text`, the buffer for the line, is shorter than the line
-- [own]
pub record HasNoRowRoom (bits : List ℕ) (side drawing margin row : ℕ) (text : List ℕ) : Type 0 where
  pub settings : AreRowSettings side drawing margin row
  pub whole : bytes_of_bits side ≤ length bits
  pub room : length text < length (row_of_bits side drawing margin row bits)

-- A square `g` was written as bits and as bytes. Then the lines of the text that are drawn from the bits are, one after
-- the other, the text that is drawn from the bytes [own]
abbrev pub RowsAreTheDrawing : Type 0
RowsAreTheDrawing = (drawing margin : ℕ) (g : Grid) (blank bits empty modules : List ℕ) → drawing < 3
    → HoldsBits g blank bits → HoldsSquares g.side (g ∷ []) empty modules
    → texts_below (row_count g.side drawing margin) (λ row. row_of_bits g.side drawing margin row bits)
    ≡ drawing_of_bytes g.side 1 drawing margin modules
