-- Finder patterns at the corners of a square of `side` modules on a side. `dark r c` says whether the module in row `r`
-- and column `c` is dark.
use Rattle.std.specs.Prelude.{◌≡◌, ℕ, ◌-◌, ◌<◌, ◌≤◌, Bool, ◌||◌, ◌==◌, not}
use Rattle.qr_layout.specs.Region.{ring_of}

-- The modules around the place (a, b) are a finder pattern with its separator, as far as they are in the square. In
-- square rings around this place the rings 0, 1 and 3 are dark, and ring 2 is light. Ring 4 is the separator, which is
-- light too (ISO/IEC 18004:2015, 6.3.3, 6.3.4)
pub record HasFinder (side : ℕ) (dark : ℕ → ℕ → Bool) (a b : ℕ) : Type 0 where
  pub rings : (r c : ℕ) → r < side → c < side → ring_of a b r c ≤ 4 → dark r c ≡ not (ring_of a b r c == 2 || ring_of a b r c == 4)

-- The square has the finder patterns of an upright symbol: at the top left, at the top right and at the bottom left
-- (ISO/IEC 18004:2015, 6.3.3)
pub record HasFinders (side : ℕ) (dark : ℕ → ℕ → Bool) : Type 0 where
  pub top_left : HasFinder side dark 3 3
  pub top_right : HasFinder side dark 3 (side - 4)
  pub bottom_left : HasFinder side dark (side - 4) 3
