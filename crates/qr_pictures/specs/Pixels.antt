-- Pictures in grey, and what a picture shows in which a square of modules is drawn: each module is a square of `f.scale`
-- by `f.scale` pixels in one of two grey values. The frame `f` says where the square is in the picture. `dark r c` says
-- whether the module in row `r` and column `c` of the square is dark. `y` is the row of a pixel, and `x` its column.
use Rattle.std.specs.Prelude.{◌≡◌, ◌≢◌, ℕ, ◌+◌, ◌-◌, ◌*◌, ◌/◌, ◌%◌, ◌<◌, ◌≤◌, Bool, ◌&&◌, nat_le, nat_lt, if◌then◌else◌, List, length, slice_index_or}
use Rattle.qr_pictures.specs.declared.frame.Frame.{Frame}

-- A picture: its bytes, its width and height in pixels, and how many bytes after a row the next one begins [own]
pub record Pixels : Type 0 where
  pub bytes : List ℕ
  pub width : ℕ
  pub height : ℕ
  pub stride : ℕ

-- The picture of this width and height whose first row is at the beginning of the bytes [own]
abbrev pub pixels_of : List ℕ → (width height stride : ℕ) → Pixels
pixels_of bytes width height stride = record { bytes = bytes; width = width; height = height; stride = stride }

-- The picture has pixels, its rows do not overlap, and all of its pixels are in the bytes [own]
pub record IsPicture (p : Pixels) : Type 0 where
  pub wide : 1 ≤ p.width
  pub high : 1 ≤ p.height
  pub apart : p.width ≤ p.stride
  pub inside : (p.height - 1) * p.stride + p.width ≤ length p.bytes

-- The grey value of a pixel: 0 is black and 255 is white [own]
unfoldable pub grey : Pixels → ℕ → ℕ → ℕ
grey p y x = slice_index_or p.bytes (y * p.stride + x) 0

-- The pixel is in the square [own]
abbrev pub is_inside : Frame → ℕ → ℕ → Bool
is_inside f y x = (nat_le f.top y && nat_lt y (f.top + f.side * f.scale)) && (nat_le f.left x && nat_lt x (f.left + f.side * f.scale))

-- The grey value of a pixel. A pixel in the square shows the module in row (y - top) / scale and column (x - left) /
-- scale. All other pixels are in the margins, which have the grey value of light modules [own]
unfoldable pub drawn_grey : Frame → (ℕ → ℕ → Bool) → ℕ → ℕ → ℕ
drawn_grey f dark y x =
    if is_inside f y x && dark ((y - f.top) / f.scale) ((x - f.left) / f.scale) then f.dark else f.light

-- The frame can be that of a symbol in the picture: the side is one of 21, 25, .., 177 (ISO/IEC 18004:2015, 6.3.2), and
-- the square is in the picture. The margins on the four sides may have any width, also 0 [own]
pub record IsFrameIn (p : Pixels) (f : Frame) : Type 0 where
  pub least : 21 ≤ f.side
  pub most : f.side ≤ 177
  pub step : f.side % 4 ≡ 1
  pub scaled : 1 ≤ f.scale
  pub across : f.left + f.side * f.scale ≤ p.width
  pub down : f.top + f.side * f.scale ≤ p.height
  pub differ : f.dark ≢ f.light

-- The picture is the drawing of the square with the colours `dark`: there is nothing else in it [own]
pub record IsDrawing (p : Pixels) (f : Frame) (dark : ℕ → ℕ → Bool) : Type 0 where
  pub frame : IsFrameIn p f
  pub pixels : (y x : ℕ) → y < p.height → x < p.width → grey p y x ≡ drawn_grey f dark y x
