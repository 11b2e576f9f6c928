-- Squares that are turned by quarter turns.
use Rattle.std.specs.Prelude.{ℕ, ◌-◌, Bool}
use Rattle.qr_pictures.specs.declared.turn.Turn.{Turn}
use Rattle.qr_pictures.specs.declared.turn.Turn.TheVariants.{Upright, Quarter, Half, ThreeQuarters}

-- The colour in row `r` and column `c` of a square that is turned clockwise. The square has `side` modules on a side,
-- and before it is turned, the module in row `i` and column `j` is dark if `dark i j` is true [own]
unfoldable pub turned : Turn → ℕ → (ℕ → ℕ → Bool) → ℕ → ℕ → Bool
turned Upright side dark r c = dark r c
turned Quarter side dark r c = dark (side - 1 - c) r
turned Half side dark r c = dark (side - 1 - r) (side - 1 - c)
turned ThreeQuarters side dark r c = dark c (side - 1 - r)
