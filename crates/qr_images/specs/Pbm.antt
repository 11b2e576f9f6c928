-- Raw bitmaps of netpbm's format PBM, read into what they show. If a file has comments, or other white space than the
-- programs of netpbm write, the result is `None`.
use Rattle.std.specs.Prelude.{ℕ, ◌+◌, ◌-◌, ◌*◌, ◌/◌, ◌%◌, ◌^◌, Bool, ◌&&◌, ◌==◌, nat_le, if◌then◌else◌, List, [], ◌∷◌, length, take, drop, codes, Option, Some, None}
use Rattle.std.specs.List.{slice_index_or}
use Rattle.qr_images.specs.Png.{same}

-- The decimal number whose digits come first, where `n` is the number of the digits before them, and the bytes after
-- them [own]
unfoldable pub leading : ℕ → List ℕ → ℕ × List ℕ
leading n [] = (n, [])
leading n (b ∷ bytes) = if nat_le 48 b && nat_le b 57 then leading (n * 10 + (b - 48)) bytes else (n, b ∷ bytes)

-- A bitmap: its width and height in pixels, and its lines [own]
pub record Bitmap : Type 0 where
  pub width : ℕ
  pub height : ℕ
  pub lines : List ℕ

-- The pixel in row `y` and column `x` is black. A byte has eight pixels, the left one in its highest bit, and 1 is
-- black (netpbm, pbm)
abbrev pub is_black : Bitmap → ℕ → ℕ → Bool
is_black p y x = slice_index_or p.lines (y * ((p.width + 7) / 8) + x / 8) 0 / 2 ^ (7 - x % 8) % 2 == 1

-- The bitmap that a file shows: `P4`, the width and the height, which are not 0, and the lines from the top down
-- (netpbm, pbm)
unfoldable pub bitmap : List ℕ → Option Bitmap
bitmap bytes =
    let width = leading 0 (drop 3 bytes) in
    let height = leading 0 (drop 1 width.1) in
    let lines = drop 1 height.1 in
    if same (take 3 bytes) (codes "P4\n") && (same (take 1 width.1) (codes " ") && (same (take 1 height.1) (codes "\n")
    && (nat_le 1 width.0 && nat_le 1 height.0 && length lines == height.0 * ((width.0 + 7) / 8))))
    then Some (record { width = width.0; height = height.0; lines = lines }) else None
