-- What the square on which symbols are drawn has outside the region. A series uses one such square for all symbols, one
-- after the other. Outside the region these symbols differ only in the format information, which is drawn last.
use Rattle.std.specs.Prelude.{◌≡◌, ℕ, ◌<◌, false}
use Rattle.qr_layout.specs.Version.{side_of}
use Rattle.qr_layout.specs.Region.{is_in_region}
use Rattle.qr_matrix.specs.Grid.{Grid, colour, IsSquare}
use Rattle.qr_symbol.specs.Steps.Patterns.{paint_of, symmetric_format}

-- The square has the function patterns, the dark module, the version information, and format information of which only
-- the modules of bit 7 are dark. No level and mask has such format information. It is a placeholder for the
-- format information that is drawn with a mask. With this placeholder, exchanging rows and columns changes no colour
-- outside the region. In the region the square may have any colours.
pub record HasPatterns (v : ℕ) (g : Grid) : Type 0 where
  pub square : IsSquare (side_of v) g
  pub outside : (r c : ℕ) → r < side_of v → c < side_of v → is_in_region v r c ≡ false → colour g r c ≡ paint_of v symmetric_format r c
