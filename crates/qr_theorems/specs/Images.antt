-- What the files of images of symbols state.
use Rattle.std.specs.Prelude.{◌≡◌, ◌≤◌, ◌<◌, ℕ, ◌+◌, ◌-◌, ◌*◌, ◌/◌, ◌^◌, false, not, List, Option, Some}
use Rattle.qr_matrix.specs.Grid.{Grid, square}
use Rattle.qr_layout.specs.declared.level.Level.{Level}
use Rattle.qr_bits.specs.Interpretation.{MayWrite}
use Rattle.qr_bits.specs.declared.interpretation.Interpretation.{Interpretation}
use Rattle.qr_bits.specs.declared.modes.Rule.{Rule}
use Rattle.qr_bits.specs.declared.stream.Header.{Header}
use Rattle.qr_symbol.specs.Encoding.{IsSymbolAt}
use Rattle.qr_symbol.specs.Reading.{IsReading, interpreted_content}
use Rattle.qr_images.specs.Laws.{dark_of, light_of}
use Rattle.qr_images.specs.Png.{Colour, Picture, is_colour, picture, pixel}
use Rattle.qr_images.specs.Writing.{png_file}
use Rattle.qr_images.specs.declared.image.ImageSettings.{ImageSettings}

-- The square in a picture, if `scale` is the width of a module in pixels, and `margin` that of the light margin in
-- modules. A module is dark if its upper left pixel does not have the colour of light modules [own]
abbrev pub square_in : (margin scale : ℕ) → Colour → Picture → Grid
square_in margin scale light p =
    square (p.width / scale - 2 * margin) (λ row col. not (is_colour (pixel p ((margin + row) * scale) ((margin + col) * scale)) light))

-- Each PNG file of a symbol of version `v` in two colours, read by the rules of PNG, is a picture, and reading the square
-- in this picture yields the input of the symbol [own]
abbrev pub ImagesAreRead : ℕ → Type 0
ImagesAreRead v = (x : List ℕ) (l : Level) (rule : Rule) (i : Interpretation) (h : Option Header) (mask : ℕ) (g : Grid)
    → MayWrite i x → (s : IsSymbolAt v l rule i x h mask g)
    → (o : ImageSettings) → 1 ≤ o.scale → o.scale ≤ 100 → o.margin ≤ 100 → o.pixels_a_metre < 2 ^ 31
    → is_colour (dark_of o.colours) (light_of o.colours) ≡ false
    → (p : Picture) × (picture (png_file o g) ≡ Some p)
    × IsReading (square_in o.margin o.scale (light_of o.colours) p) (interpreted_content i h s.segments x)
