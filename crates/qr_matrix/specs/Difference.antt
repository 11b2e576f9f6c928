-- At which places, and at how many, two squares have different colours.
use Rattle.std.specs.Prelude.{ℕ, not, Bool}
use Rattle.qr_matrix.specs.Grid.{Grid, colour, is_same}
use Rattle.qr_matrix.specs.Sums.{places_passing}

-- The squares `g` and `h` have different colours in row `r` and column `c` [own]
abbrev pub differs : Grid → Grid → ℕ → ℕ → Bool
differs g h r c = not (is_same (colour g r c) (colour h r c))

-- The number of places of `g` at which the squares `g` and `h` have different colours [own]
unfoldable pub difference_count : Grid → Grid → ℕ
difference_count g h = places_passing g.side (differs g h)
