-- Where a run ends, and a second way to compute the points for runs, which adds them up module by module. `line c` is
-- the colour of module `c` of a row or column of `s` modules, which are counted from 0.
use Rattle.std.specs.Prelude.{◌≡◌, ◌≢◌, ◌+◌, ◌-◌, ◌*◌, ◌<◌, ◌≤◌, ◌&&◌, not, ℕ, Bool, nat_lt}
use Rattle.qr_matrix.specs.Grid.{Grid, colour, is_same}
use Rattle.qr_matrix.specs.Sums.{count_below}

-- The run of row `row` that contains the module in column `col` ends before column `end`: the modules in the columns
-- `col` to `end - 1` have one colour, and the module in column `end` has the other. If the run reaches the right edge,
-- `end` is the side [own]
pub record IsRunEnd (g : Grid) (row col end : ℕ) : Type 0 where
  pub after : col < end
  pub within : end ≤ g.side
  pub same : (c : ℕ) → col ≤ c → c < end → colour g row c ≡ colour g row col
  pub differs : end < g.side → colour g row end ≢ colour g row col

-- The modules `c` and `c + 1` of `line` exist and have the same colour [own]
unfoldable pub joins : ℕ → (ℕ → Bool) → ℕ → Bool
joins s line c = nat_lt (c + 1) s && is_same (line c) (line (c + 1))

-- The five modules `c` to `c + 4` of `line` exist and have one colour [own]
unfoldable pub begins_five : ℕ → (ℕ → Bool) → ℕ → Bool
begins_five s line c = (joins s line c && joins s line (c + 1)) && (joins s line (c + 2) && joins s line (c + 3))

-- Module `c` of `line` is the first module of a run of five or more modules [own]
unfoldable pub begins_long_run : ℕ → (ℕ → Bool) → ℕ → Bool
begins_long_run s line c = begins_five s line c && not (nat_lt 0 c && joins s line (c - 1))

-- The points for the runs of `line`. A module costs 1 point if five modules of one colour begin with it, and 2 points
-- more if it is also the first module of its run; so a run of `5 + i` modules costs `3 + i` points [own]
unfoldable pub place_cost : ℕ → (ℕ → Bool) → ℕ
place_cost s line = count_below s (begins_five s line) + 2 * count_below s (begins_long_run s line)
