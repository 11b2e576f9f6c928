-- Which lines are in the rows of a raster, and how they join while they are written.
use Rattle.qr_documents.specs.Boxes.{box_line, row_lines, run_line, symbol_lines}
use Rattle.qr_drawing.specs.Raster.{is_dark_at, raster_width, texts_below}
use Rattle.qr_drawing.proofs.Facts.{is_dark_at_above, is_dark_at_below, row-texts, run_text, run_text-light, texts_below-none, texts_below-same}
use Rattle.qr_matrix.specs.{DarkRuns.AreDarkRuns, Grid.Grid, declared.dark_runs.Run.Run}
use Rattle.std.proofs.Common.{◌≡◌, ℕ, ◌+◌, ◌-◌, ◌<◌, List, [], false, arith}
use Rattle.std.specs.List.{flat_map}

-- the line of a run
abbrev pub line_of : List ℕ → ℕ → ℕ → Run → List ℕ
line_of ending up margin run = box_line ending (margin + run.start) up (run.end - run.start)

-- the line by its numbers
pub line-is : (ending : List ℕ) (up margin x modules : ℕ) (run : Run) → x ≡ margin + run.start → modules ≡ run.end - run.start
    → box_line ending x up modules ≡ line_of ending up margin run
line-is ending up margin x modules run ex em = λ i. box_line ending (ex i) up (em i)

-- the lines of a row are those of its runs
pub row-lines : (ending : List ℕ) (up margin row : ℕ) (g : Grid) (runs : List Run) → row < g.side → AreDarkRuns g row runs
    → row_lines ending up margin g (margin + row) ≡ flat_map (line_of ending up margin) runs
unfolding row_lines run_line run_text
row-lines ending up margin row g runs row_in are = row-texts (λ x modules. box_line ending x up modules) margin row g runs row_in are

-- a light row has no lines
row_lines-light : (ending : List ℕ) (up margin y : ℕ) (g : Grid) → ((x : ℕ) → is_dark_at margin g y x ≡ false) → row_lines ending up margin g y ≡ []
unfolding row_lines run_line run_text
row_lines-light ending up margin y g none =
    texts_below-none (raster_width margin g) _ (λ x lt. run_text-light (λ x modules. box_line ending x up modules) margin y x g (none x))

-- the lines of row `y` of a symbol
abbrev pub lines_at : List ℕ → ℕ → ℕ → Grid → ℕ → List ℕ
lines_at ending below margin g y = row_lines ending (below + (raster_width margin g - (y + 1))) margin g y

-- there are no lines above the square of a symbol
pub lines-begin : (ending : List ℕ) (below margin : ℕ) (g : Grid) → texts_below (margin + 0) (lines_at ending below margin g) ≡ []
lines-begin ending below margin g =
    texts_below-none (margin + 0) _ (λ y lt. row_lines-light ending _ margin y g (λ x. is_dark_at_above margin y x g (omega arith)))

-- there are no lines below the square of a symbol
pub lines-end : (ending : List ℕ) (below margin row : ℕ) (g : Grid) → row ≡ g.side
    → symbol_lines ending below margin g ≡ texts_below (margin + row) (lines_at ending below margin g)
unfolding symbol_lines
lines-end ending below margin row g e =
    texts_below-same (margin + row) (raster_width margin g) _ (omega arith)
    (λ y le lt. row_lines-light ending _ margin y g (λ x. is_dark_at_below margin y x g (omega arith)))
