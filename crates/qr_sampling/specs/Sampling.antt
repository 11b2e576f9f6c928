-- What the modules of a symbol are in a picture. `shows` has the brightness of each pixel of the picture, by its column and
-- its row.
use Rattle.std.specs.Prelude.{ℕ, ◌+◌, ◌-◌, ◌*◌, ◌/◌, ◌≤◌, min, if◌then◌else◌}
use Rattle.qr_sampling.specs.Brightness.{brightness}
use Rattle.qr_sampling.specs.Levels.{dark_level, light_level, module_of}
use Rattle.qr_sampling.specs.Place.{column_of, row_of}
use Rattle.qr_sampling.specs.Sums.{sum_below}
use Rattle.qr_sampling.specs.declared.map.Map.{Map}
use Rattle.qr_sampling.specs.declared.sampling.Sampling.{Sampling}

-- The sum of the brightness at places that are a pixel apart in a row, up to `reach` to each side of the place `x`. `x` is
-- counted from the edge of the picture, and 8 less counts it from the middle of the first pixel, as `y` and `brightness`
-- are counted [own]
unfoldable pub row_sum : (ℕ → ℕ → ℕ) → ℕ → ℕ → ℕ → ℕ
row_sum shows reach x y = sum_below (2 * reach + 1) (λ i. brightness shows (x + 16 * i - (16 * reach + 8)) y)

-- The sum of the brightness at places that are a pixel apart, up to `reach` to each side of the place `x`, `y` [own]
unfoldable pub square_sum : (ℕ → ℕ → ℕ) → ℕ → ℕ → ℕ → ℕ
square_sum shows reach x y = sum_below (2 * reach + 1) (λ j. row_sum shows reach x (y + 16 * j - (16 * reach + 8)))

-- The mean of numbers with this sum, rounded [own]
abbrev pub rounded_mean : ℕ → ℕ → ℕ
rounded_mean sum count = (sum + count / 2) / count

-- The mean brightness at the places around the middle of a module [own]
unfoldable pub mean_at : (ℕ → ℕ → ℕ) → Map → ℕ → ℕ → ℕ → ℕ
mean_at shows map reach column row =
    rounded_mean (square_sum shows reach (column_of map (8 * column + 4) (8 * row + 4)) (row_of map (8 * column + 4) (8 * row + 4)))
    ((2 * reach + 1) * (2 * reach + 1))

-- The brightness of a module that stands out from the four modules beside it, against blur [own]
unfoldable pub sharpened : ℕ → (ℕ → ℕ → ℕ) → ℕ → ℕ → ℕ
sharpened side values column row =
    min ((7 * values column row - (values column (row - 1) + values column (min (row + 1) (side - 1)) + values (column - 1) row
    + values (min (column + 1) (side - 1)) row)) / 3) 255

-- The brightness of a module [own]
unfoldable pub value_at : (ℕ → ℕ → ℕ) → Sampling → ℕ → ℕ → ℕ
value_at shows how column row =
    if how.is_sharpened then sharpened how.side (mean_at shows how.map how.reach) column row else mean_at shows how.map how.reach column row

-- What a module is in a square of modules with these values [own]
unfoldable pub module_in : Sampling → (ℕ → ℕ → ℕ) → ℕ → ℕ → ℕ
module_in how values column row =
    module_of how.is_inverse how.is_decided (32 * values column row) (light_level how.side values column row) (dark_level how.side values column row)

-- The same, with columns and rows exchanged in a mirrored symbol [own]
unfoldable pub placed : Sampling → (ℕ → ℕ → ℕ) → ℕ → ℕ → ℕ
placed how values column row = if how.is_mirrored then module_in how values row column else module_in how values column row

-- What a module of the symbol is in the picture [own]
unfoldable pub sampled : (ℕ → ℕ → ℕ) → Sampling → ℕ → ℕ → ℕ
sampled shows how = placed how (value_at shows how)

-- The side and the reach are not too great, and the tables have room for each module [own]
pub record IsEnough (side reach bytes sums modules : ℕ) : Type 0 where
  pub side_in : side ≤ 177
  pub reach_in : reach ≤ 4
  pub bytes_room : 3 * (side * side) ≤ bytes
  pub sums_room : 3 * (side * side) ≤ sums
  pub modules_room : side * side ≤ modules
