-- The size of a picture, and brightness between two pixels.
use Rattle.std.specs.Prelude.{ℕ, ◌+◌, ◌-◌, ◌*◌, ◌<◌, ◌≤◌}

-- Sixteen times the brightness between two pixels, at so many sixteenths of the way from the first to the second [own]
abbrev pub between : ℕ → ℕ → ℕ → ℕ
between first second sixteenths = first * (16 - sixteenths) + second * sixteenths

-- There are pictures with this width and this height, and so many bytes from a row to the next [own]
abbrev pub CanBePicture : ℕ → ℕ → ℕ → Type 0
CanBePicture width height stride = (0 < width) × (width ≤ 32767) × (0 < height) × (height ≤ 32767) × (width ≤ stride)
