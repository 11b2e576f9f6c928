-- What the pictures of symbols state.
use Rattle.std.specs.Prelude.{◌≡◌, ◌≢◌, ◌≤◌, ◌<◌, ℕ, ◌^◌, List, Option, Some, IsSomeAnd}
use Rattle.qr_matrix.specs.{Bytes.{square_of_bytes}, Grid.{Grid}}
use Rattle.qr_layout.specs.declared.level.Level.{Level}
use Rattle.qr_bits.specs.Interpretation.{MayWrite}
use Rattle.qr_bits.specs.declared.interpretation.Interpretation.{Interpretation}
use Rattle.qr_bits.specs.declared.modes.Rule.{Rule}
use Rattle.qr_bits.specs.declared.stream.Header.{Header}
use Rattle.qr_symbol.specs.Encoding.{IsSymbolAt}
use Rattle.qr_symbol.specs.Reading.{IsReading, interpreted_content}
use Rattle.qr_images.specs.Laws.{dark_of, light_of}
use Rattle.qr_images.specs.Png.{Colour, Picture, picture, pixel}
use Rattle.qr_images.specs.Writing.{png_file}
use Rattle.qr_images.specs.declared.image.ImageSettings.{ImageSettings}
use Rattle.qr_pictures.specs.Pixels.{Pixels, grey}
use Rattle.qr_pictures.specs.declared.clean.CleanSquare.{CleanSquare}

-- The pixels are those of a picture that was read from a PNG file, where `as_grey` says which grey a colour becomes, from
-- 0 to 255 [own]
pub record HasPixelsOf (as_grey : Colour → ℕ) (q : Pixels) (p : Picture) : Type 0 where
  pub width : q.width ≡ p.width
  pub height : q.height ≡ p.height
  pub pixels : (y x : ℕ) → y < p.height → x < p.width → grey q y x ≡ as_grey (pixel p y x)

-- If the pixels are those of the PNG file of a symbol of version `v`, and its two colours became different greys, a square
-- is found, and reading the square whose modules are the first bytes of `modules` yields the input of the symbol [own]
abbrev pub IsReadFrom : ℕ → Pixels → Option CleanSquare → List ℕ → Type 0
IsReadFrom v q found modules = (x : List ℕ) (l : Level) (rule : Rule) (i : Interpretation) (h : Option Header) (mask : ℕ) (g : Grid)
    → MayWrite i x → (s : IsSymbolAt v l rule i x h mask g)
    → (o : ImageSettings) → 1 ≤ o.scale → o.scale ≤ 100 → o.margin ≤ 100 → o.pixels_a_metre < 2 ^ 31
    → (p : Picture) (as_grey : Colour → ℕ) → picture (png_file o g) ≡ Some p → HasPixelsOf as_grey q p
    → as_grey (dark_of o.colours) ≢ as_grey (light_of o.colours)
    → IsSomeAnd found (λ square. IsReading (square_of_bytes square.frame.side modules) (interpreted_content i h s.segments x))
