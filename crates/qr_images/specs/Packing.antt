-- The hexadecimal digits of the lines of a ZPL graphic as they are written. A run is digits that are the same.
use Rattle.std.specs.Prelude.{ℕ, zero, suc, ◌+◌, ◌-◌, ◌/◌, ◌%◌, Bool, false, ◌||◌, ◌&&◌, ◌==◌, nat_lt, if◌then◌else◌, List, [], ◌∷◌, ◌++◌}
use Rattle.qr_matrix.specs.Grid.{Grid}
use Rattle.qr_matrix.specs.Raster.{is_dark_at, raster_width}
use Rattle.qr_images.specs.Image.{black_line, joined_below, repeated}
use Rattle.qr_images.specs.declared.image.ImageSettings.{ImageSettings}

-- The hexadecimal digits of bytes, the higher digit of each first [own]
unfoldable pub digits_of : List ℕ → List ℕ
digits_of [] = []
digits_of (b ∷ bytes) = b / 16 ∷ b % 16 ∷ digits_of bytes

-- The character of a hexadecimal digit (ZPL, ^GF)
abbrev pub digit_text : ℕ → ℕ
digit_text d = if nat_lt d 10 then 48 + d else 55 + d

-- The letter that stands for the whole twenties of a count, if it has any (ZPL, ^GF)
abbrev pub twenties_text : ℕ → List ℕ
twenties_text n = if nat_lt n 20 then [] else (102 + n / 20) ∷ []

-- The letter that stands for the rest of a count, if it is not 0 (ZPL, ^GF)
abbrev pub ones_text : ℕ → List ℕ
ones_text n = if n % 20 == 0 then [] else (70 + n % 20) ∷ []

-- The run of `n` digits `d`, at most 419: with a count if it has three digits or more (ZPL, ^GF)
unfoldable pub run_text : ℕ → ℕ → List ℕ
run_text d n = if nat_lt n 3 then repeated n (digit_text d ∷ []) else twenties_text n ++ (ones_text n ++ digit_text d ∷ [])

-- The runs of `n` digits `d` and of further digits. A run ends after 419 digits [own]
unfoldable pub runs_from : ℕ → ℕ → List ℕ → List ℕ
runs_from d n [] = run_text d n
runs_from d n (e ∷ digits) = if nat_lt n 419 && e == d then runs_from d (suc n) digits else run_text d n ++ runs_from e 1 digits

-- One of the first `n` modules of row `r` of the raster is dark [own]
unfoldable pub has_dark_below : ℕ → ImageSettings → Grid → ℕ → Bool
has_dark_below zero s g r = false
has_dark_below (suc n) s g r = has_dark_below n s g r || is_dark_at s.margin g r n

-- The first of the lines that show row `r` of the raster. A comma is a line of the digit 0 (ZPL, ^GF)
unfoldable pub first_line : ImageSettings → Grid → ℕ → List ℕ
first_line s g r =
    if has_dark_below (raster_width s.margin g) s g r then runs_from 0 0 (digits_of (black_line s g r)) else 44 ∷ []

-- All lines that show row `r` of the raster. A colon is the line above once more (ZPL, ^GF)
unfoldable pub packed_row : ImageSettings → Grid → ℕ → List ℕ
packed_row s g r = first_line s g r ++ joined_below (s.scale - 1) (λ _. 58 ∷ [])

-- All lines, from the top down (ZPL, ^GF)
unfoldable pub packed_rows : ImageSettings → Grid → List ℕ
packed_rows s g = joined_below (raster_width s.margin g) (λ r. packed_row s g r)
