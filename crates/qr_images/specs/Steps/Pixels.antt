-- The modules of a row of the raster.
use Rattle.std.specs.Prelude.{ℕ, ◌-◌, ◌==◌, Bool, not, ◌&&◌, nat_le, List, slice_index_or}

-- The module in column `x` of a row is dark. The row has a margin of `margin` modules, then the modules `cells`, and
-- then a margin again [own]
unfoldable pub is_dark_in : ℕ → List ℕ → ℕ → Bool
is_dark_in margin cells x = nat_le margin x && not (slice_index_or cells (x - margin) 0 == 0)
