-- What `qrproved_png` writes, and when it refuses a buffer as too short. It writes the image of a square of `side` rows as
-- a PNG file in two colours. The buffer `modules` begins with a byte for each module, row by row.
use Rattle.std.specs.Prelude.{ℕ, ◌*◌, ◌<◌, ◌≤◌, ◌^◌, List, Some, length}
use Rattle.qr_images.specs.Writing.{image_file}
use Rattle.qr_images.specs.declared.image.Format.TheVariants.{Png}
use Rattle.qr_images.specs.declared.image.ImageSettings.{ImageSettings}
use Rattle.qrproved.specs.Modules.{square_of_bytes}

-- What the numbers of a caller mean [own]
abbrev pub settings_of : (scale margin pixels_a_metre dark light : ℕ) → ImageSettings
settings_of scale margin pixels_a_metre dark light = record {
  format = Png;
  scale = scale;
  margin = margin;
  colours = Some (record { dark = dark; light = light });
  pixels_a_metre = pixels_a_metre;
  left = 0;
  top = 0;
}

-- All numbers are in range. The greatest side is that of version 40 in modules. PNG has room for 2^31 - 1 pixels a
-- metre. Each number of 32 bits is a colour [own]
abbrev pub ArePngSettings : (side scale margin pixels_a_metre : ℕ) → Type 0
ArePngSettings side scale margin pixels_a_metre =
    (1 ≤ side) × (side ≤ 177) × (1 ≤ scale) × (scale ≤ 100) × (margin ≤ 100) × (pixels_a_metre < 2 ^ 31)

-- The PNG file of the square that the first bytes of `bytes` give [own]
abbrev pub png_of_bytes : (side scale margin pixels_a_metre dark light : ℕ) → List ℕ → List ℕ
png_of_bytes side scale margin pixels_a_metre dark light bytes =
    image_file (settings_of scale margin pixels_a_metre dark light) (square_of_bytes side bytes)

-- The numbers are in range, but `modules` has fewer bytes than the square has modules [own]
pub record LacksPngModules (modules : List ℕ) (side scale margin pixels_a_metre : ℕ) : Type 0 where
  pub settings : ArePngSettings side scale margin pixels_a_metre
  pub few : length modules < side * side

-- The numbers are in range and `modules` has enough bytes, but `image`, the buffer for the file, is shorter than the
-- file [own]
pub record LacksPngRoom (modules : List ℕ) (side scale margin pixels_a_metre dark light : ℕ) (image : List ℕ) : Type 0 where
  pub settings : ArePngSettings side scale margin pixels_a_metre
  pub whole : side * side ≤ length modules
  pub room : length image < length (png_of_bytes side scale margin pixels_a_metre dark light modules)
