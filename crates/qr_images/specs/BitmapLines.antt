-- The lines of a bitmap that are written, in formats in which a black dot is the bit 1, and in formats in which it is
-- the bit 0.
use Rattle.std.specs.Prelude.{ℕ, ◌+◌, ◌-◌, ◌/◌, Bool, if◌then◌else◌, List, [], ◌∷◌}
use Rattle.qr_matrix.specs.Grid.{Grid}
use Rattle.qr_images.specs.Image.{black_byte, joined_below, line_length}
use Rattle.qr_images.specs.declared.image.ImageSettings.{ImageSettings}

-- A byte of eight dots in which black is the bit 1, as it is written: with all its bits inverted, unless black is 1 in
-- the format too [own]
abbrev pub toned : Bool → ℕ → ℕ
toned black b = if black then b else 255 - b

-- A line that shows row `r` of the raster [own]
unfoldable pub toned_line : Bool → ImageSettings → Grid → ℕ → List ℕ
toned_line black s g r = joined_below (line_length s g) (λ k. toned black (black_byte s g r k) ∷ [])

-- The `count` lines from line `first` on, from the top down [own]
unfoldable pub toned_lines : Bool → ImageSettings → Grid → ℕ → ℕ → List ℕ
toned_lines black s g first count = joined_below count (λ y. toned_line black s g ((first + y) / s.scale))
