-- Which modules of a square are dark. `values` has the brightness of each module, by its column and its row. A module is
-- compared with the light and the dark modules in a square of 13 by 13 modules around it, as far as this is inside the
-- symbol. So brightness that changes slowly across the symbol matters little.
use Rattle.std.specs.Prelude.{ℕ, Bool, true, false, ◌+◌, ◌-◌, ◌*◌, ◌/◌, ◌==◌, ◌&&◌, min, nat_lt, if◌then◌else◌}
use Rattle.qr_sampling.specs.Sums.{sum_below}

-- The first of the columns around a column, or of the rows around a row [own]
abbrev pub first_around : ℕ → ℕ
first_around k = k - 6

-- The number of columns around a column, or of rows around a row [own]
abbrev pub count_around : ℕ → ℕ → ℕ
count_around side k = min side (k + 7) - first_around k

-- The sum of a function over the columns around a column, in one row [own]
unfoldable pub across : ℕ → (ℕ → ℕ → ℕ) → ℕ → ℕ → ℕ
across side f column row = sum_below (count_around side column) (λ i. f (first_around column + i) row)

-- The sum of a function over the modules around a module [own]
unfoldable pub around : ℕ → (ℕ → ℕ → ℕ) → ℕ → ℕ → ℕ
around side f column row = sum_below (count_around side row) (λ j. across side f column (first_around row + j))

-- The number of modules around a module [own]
unfoldable pub area : ℕ → ℕ → ℕ → ℕ
area side column row = count_around side column * count_around side row

-- The brightness of a module that is brighter than the mean of those around it, and 0 for another module [own]
unfoldable pub light_of : ℕ → (ℕ → ℕ → ℕ) → ℕ → ℕ → ℕ
light_of side values column row =
    if nat_lt (around side values column row) (values column row * area side column row) then values column row else 0

-- 1 for a number that is not 0 [own]
abbrev pub mark : ℕ → ℕ
mark n = min n 1

-- The number of light modules around a module [own]
unfoldable pub lights : ℕ → (ℕ → ℕ → ℕ) → ℕ → ℕ → ℕ
lights side values column row = around side (λ c r. mark (light_of side values c r)) column row

-- Sixteen times the mean of `count` numbers with this sum, or `otherwise` if there is no number [own]
abbrev pub mean_level : ℕ → ℕ → ℕ → ℕ
mean_level sum count otherwise = if count == 0 then otherwise else 16 * sum / count

-- Sixteen times the mean brightness of the light modules around a module [own]
unfoldable pub light_level : ℕ → (ℕ → ℕ → ℕ) → ℕ → ℕ → ℕ
light_level side values column row = mean_level (around side (light_of side values) column row) (lights side values column row) 4080

-- Sixteen times the mean brightness of the other modules around a module [own]
unfoldable pub dark_level : ℕ → (ℕ → ℕ → ℕ) → ℕ → ℕ → ℕ
dark_level side values column row =
    mean_level (around side values column row - around side (light_of side values) column row)
    (area side column row - lights side values column row) 0

-- The distance of two numbers [own]
abbrev pub distance : ℕ → ℕ → ℕ
distance a b = (a - b) + (b - a)

-- Whether a brightness is nearer than an eighth of the difference of `light` and `dark` to the middle between them, where
-- not every module is `decided`. `twice` is 32 times the brightness [own]
abbrev pub is_near : Bool → ℕ → ℕ → ℕ → Bool
is_near decided twice light dark = (if decided then false else true) && nat_lt (4 * distance twice (light + dark)) (light - dark)

-- What a module is: 1 if it is dark, 0 if it is light, and 2 if this is not known. `inverse` is true for a
-- symbol that is light on dark [own]
unfoldable pub module_of : Bool → Bool → ℕ → ℕ → ℕ → ℕ
module_of inverse decided twice light dark =
    if is_near decided twice light dark then 2 else (if nat_lt twice (light + dark) then (if inverse then 0 else 1) else (if inverse then 1 else 0))
