-- What `qrproved_image` writes, and when it refuses a buffer as too short. It writes the image of a square of `side`
-- rows. The buffer `modules` begins with a byte for each module, row by row.
use Rattle.std.specs.Prelude.{ℕ, ◌*◌, ◌<◌, ◌≤◌, ◌^◌, ◌==◌, if◌then◌else◌, List, None, length}
use Rattle.qr_images.specs.Writing.{image_file}
use Rattle.qr_images.specs.declared.image.Format.{Format}
use Rattle.qr_images.specs.declared.image.Format.TheVariants.{EscPos, Pbm, Png, Tspl, Zpl}
use Rattle.qr_images.specs.declared.image.ImageSettings.{ImageSettings}
use Rattle.qrproved.specs.Modules.{square_of_bytes}

-- The format that the number `n` of a caller means: 0 is PNG, 1 is PBM, 2 is ESC/POS, 3 is TSPL and 4
-- is ZPL. Numbers above 4 are out of range [own]
abbrev pub format_of : ℕ → Format
format_of n = if n == 0 then Png else (if n == 1 then Pbm else (if n == 2 then EscPos else (if n == 3 then Tspl else Zpl)))

-- What the numbers of a caller mean [own]
abbrev pub settings_of : (format scale margin pixels_a_metre left top : ℕ) → ImageSettings
settings_of format scale margin pixels_a_metre left top =
    record { format = format_of format; scale = scale; margin = margin; colours = None; pixels_a_metre = pixels_a_metre; left = left; top = top }

-- The numbers of the settings are in range. PNG has room for 2^31 - 1 pixels a metre, and printers take positions of up
-- to 32,000 dots [own]
abbrev pub AreSettings : (format scale margin pixels_a_metre left top : ℕ) → Type 0
AreSettings format scale margin pixels_a_metre left top =
    (format < 5) × (1 ≤ scale) × (scale ≤ 100) × (margin ≤ 100) × (pixels_a_metre < 2 ^ 31) × (left ≤ 32000) × (top ≤ 32000)

-- All numbers are in range. The greatest side is that of version 40 in modules [own]
abbrev pub AreImageSettings : (side format scale margin pixels_a_metre left top : ℕ) → Type 0
AreImageSettings side format scale margin pixels_a_metre left top =
    (1 ≤ side) × (side ≤ 177) × AreSettings format scale margin pixels_a_metre left top

-- The image of the square that the first bytes of `bytes` give [own]
abbrev pub image_of_bytes : (side format scale margin pixels_a_metre left top : ℕ) → List ℕ → List ℕ
image_of_bytes side format scale margin pixels_a_metre left top bytes =
    image_file (settings_of format scale margin pixels_a_metre left top) (square_of_bytes side bytes)

-- The numbers are in range, but `modules` has fewer bytes than the square has modules [own]
pub record HasFewImageModules (modules : List ℕ) (side format scale margin pixels_a_metre left top : ℕ) : Type 0 where
  pub settings : AreImageSettings side format scale margin pixels_a_metre left top
  pub few : length modules < side * side

-- The numbers are in range and `modules` has enough bytes, but `image`, the buffer for the file, is shorter than the
-- file [own]
pub record HasNoImageRoom (modules : List ℕ) (side format scale margin pixels_a_metre left top : ℕ) (image : List ℕ) : Type 0 where
  pub settings : AreImageSettings side format scale margin pixels_a_metre left top
  pub whole : side * side ≤ length modules
  pub room : length image < length (image_of_bytes side format scale margin pixels_a_metre left top modules)
