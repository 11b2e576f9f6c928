-- The brightness of a grey picture, from 0 for black to 255 for white. Columns and rows are counted from 0, from the left
-- and from the top. A place is given in sixteenths of a pixel, from the middle of the pixel at the top left. `shows` has
-- the brightness of each pixel, by its column and its row.
use Rattle.std.specs.Prelude.{ℕ, ◌+◌, ◌-◌, ◌*◌, ◌/◌, ◌%◌, min, slice_index}
use Rattle.qr_sampling.specs.Between.{between}
use Rattle.qr_sampling.specs.declared.picture.Picture.{Picture}

-- The brightness of a pixel, or, outside the picture, of the pixel at the border that is nearest to it [own]
unfoldable pub shown : Picture → ℕ → ℕ → ℕ
shown picture column row =
    slice_index picture.pixels.now (min row (picture.height - 1) * picture.stride + min column (picture.width - 1))

-- The brightness at the place `x`, `y`: in proportion between the four pixels around it, rounded [own]
unfoldable pub brightness : (ℕ → ℕ → ℕ) → ℕ → ℕ → ℕ
brightness shows x y =
    (between (between (shows (x / 16) (y / 16)) (shows (x / 16 + 1) (y / 16)) (x % 16))
    (between (shows (x / 16) (y / 16 + 1)) (shows (x / 16 + 1) (y / 16 + 1)) (x % 16)) (y % 16) + 128) / 256
