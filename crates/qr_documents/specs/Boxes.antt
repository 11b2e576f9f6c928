-- The boxes of an EPS or PDF document, as lines of text. A box shows a run of dark modules. In these documents the rows
-- are counted from the bottom. `y` and `x` are a row and a column of the raster of the square `g` with the margin
-- `margin`, and the row is counted from the top, as in the definitions of SVG. `below` is the number of rows of the
-- document below this raster. Each line ends with `ending`, which is the command that draws the box.
use Rattle.std.specs.Prelude.{ℕ, ◌+◌, ◌-◌, if◌then◌else◌, List, [], ◌++◌, codes, decimal}
use Rattle.qr_matrix.specs.Grid.{Grid}
use Rattle.qr_matrix.specs.Raster.{raster_width}
use Rattle.qr_drawing.specs.Raster.{texts_below}
use Rattle.qr_drawing.specs.Svg.{begins_run, numbered, run_length}

-- The line of a box that is one module high and `modules` modules wide. Its lower left corner has `x` columns to its
-- left and `up` rows below it [own]
unfoldable pub box_line : List ℕ → ℕ → ℕ → ℕ → List ℕ
box_line ending x up modules = decimal x ++ numbered (codes " ") up ++ numbered (codes " ") modules ++ ending

-- The line of the run that begins in row `y` and column `x`, if `up` rows of the document are below row `y`. If no run
-- begins there, the result is empty [own]
unfoldable pub run_line : List ℕ → ℕ → ℕ → Grid → ℕ → ℕ → List ℕ
run_line ending up margin g y x =
    if begins_run margin g y x then box_line ending x up (run_length margin g y x) else []

-- The lines of the runs of row `y`, from left to right [own]
unfoldable pub row_lines : List ℕ → ℕ → ℕ → Grid → ℕ → List ℕ
row_lines ending up margin g y = texts_below (raster_width margin g) (run_line ending up margin g y)

-- The lines of all runs of a raster, row by row from the top [own]
unfoldable pub symbol_lines : List ℕ → ℕ → ℕ → Grid → List ℕ
symbol_lines ending below margin g =
    texts_below (raster_width margin g) (λ y. row_lines ending (below + (raster_width margin g - (y + 1))) margin g y)
