-- The drawing of the square `g` with the margin `margin` as lines of text, which consist of cells.
use Rattle.std.specs.Prelude.{ℕ, ◌+◌, ◌*◌, ◌/◌, Bool, not, if◌then◌else◌, List, [], ◌∷◌, ◌++◌}
use Rattle.qr_matrix.specs.Grid.{Grid}
use Rattle.qr_matrix.specs.Raster.{is_dark_at, raster_width}
use Rattle.qr_drawing.specs.Raster.{texts_below}
use Rattle.qr_drawing.specs.declared.text.TextStyle.{TextStyle}
use Rattle.qr_drawing.specs.declared.text.TextStyle.TheVariants.{Plain, Inverse, HalfBlocks}

-- The characters of a module: two `#` if it is dark, and two spaces if it is light [own]
abbrev pub ascii_module : Bool → List ℕ
ascii_module dark = if dark then 35 ∷ 35 ∷ [] else 32 ∷ 32 ∷ []

-- The character, in UTF-8, that shows two modules, of which `upper` is above `lower`. Its filled parts are light
-- modules: it is a space if both are dark, U+2584 if only `lower` is light, U+2580 if only `upper` is light, and U+2588
-- if both are light [own]
abbrev pub half_blocks : Bool → Bool → List ℕ
half_blocks upper lower =
    if upper then (if lower then 32 ∷ [] else 0xE2 ∷ 0x96 ∷ 0x84 ∷ [])
    else (if lower then 0xE2 ∷ 0x96 ∷ 0x80 ∷ [] else 0xE2 ∷ 0x96 ∷ 0x88 ∷ [])

-- The cell with the index `x` in line `y`, both counted from 0. In the style `HalfBlocks` a cell of the last line may
-- show a module that is below the raster, and so counts as light [own]
abbrev pub cell_of : TextStyle → ℕ → Grid → ℕ → ℕ → List ℕ
cell_of Plain margin g y x = ascii_module (is_dark_at margin g y x)
cell_of Inverse margin g y x = ascii_module (not (is_dark_at margin g y x))
cell_of HalfBlocks margin g y x = half_blocks (is_dark_at margin g (2 * y) x) (is_dark_at margin g (2 * y + 1) x)

-- The number of lines of text that show `rows` rows of modules. In the style `HalfBlocks` each line shows two rows, but
-- the last line shows only one if `rows` is odd [own]
abbrev pub line_count : TextStyle → ℕ → ℕ
line_count Plain rows = rows
line_count Inverse rows = rows
line_count HalfBlocks rows = (rows + 1) / 2

-- The cells of line `y` from left to right, without a newline [own]
abbrev pub cells_of_line : TextStyle → ℕ → Grid → ℕ → List ℕ
cells_of_line style margin g y = texts_below (raster_width margin g) (cell_of style margin g y)

-- Line `y` of the drawing, with the newline at its end [own]
abbrev pub line_of : TextStyle → ℕ → Grid → ℕ → List ℕ
line_of style margin g y = cells_of_line style margin g y ++ 10 ∷ []

-- All lines of the drawing from top to bottom [own]
abbrev pub text_drawing : TextStyle → ℕ → Grid → List ℕ
text_drawing style margin g = texts_below (line_count style (raster_width margin g)) (line_of style margin g)
