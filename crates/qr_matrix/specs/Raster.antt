-- The raster of the square `g`, with a light margin of `margin` modules on all sides (ISO/IEC 18004:2015, 6.3.8).
use Rattle.std.specs.Prelude.{ℕ, ◌+◌, ◌-◌, ◌*◌, Bool, ◌&&◌, nat_le, nat_lt}
use Rattle.qr_matrix.specs.Grid.{Grid, colour}

-- The width of the raster in modules, which is also its height [own]
abbrev pub raster_width : ℕ → Grid → ℕ
raster_width margin g = 2 * margin + g.side

-- The module in row `y` and column `x` of the raster is dark. Every module of the margin, which is the quiet zone, is
-- light (ISO/IEC 18004:2015, 6.3.8)
unfoldable pub is_dark_at : ℕ → Grid → ℕ → ℕ → Bool
is_dark_at margin g y x =
    nat_le margin y && nat_lt y (margin + g.side) && nat_le margin x && nat_lt x (margin + g.side)
    && colour g (y - margin) (x - margin)
