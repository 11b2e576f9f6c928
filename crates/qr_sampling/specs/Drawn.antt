-- Drawn squares: what a picture shows if a square of modules is drawn in it without any fault. `dark column row` says
-- whether a module of the symbol is dark.
use Rattle.std.specs.Prelude.{◌≡◌, ℕ, pos, ◌+◌, ◌*◌, ◌<◌, ◌≤◌, Bool, slice_index, if◌then◌else◌}
use Rattle.qr_sampling.specs.Between.{CanBePicture}
use Rattle.qr_sampling.specs.declared.map.Form.{Form}
use Rattle.qr_sampling.specs.declared.map.Map.{Map}
use Rattle.qr_sampling.specs.declared.picture.Picture.{Picture}
use Rattle.qr_sampling.specs.declared.sampling.Sampling.{Sampling}

-- Where a square of modules is in a picture: the column and the row of its pixel at the top left, and how many pixels a
-- module has on a side [own]
pub record Frame : Type 0 where
  pub left : ℕ
  pub top : ℕ
  pub scale : ℕ

-- The byte of a pixel, by its column and its row [own]
abbrev pub pixel : Picture → ℕ → ℕ → ℕ
pixel picture column row = slice_index picture.pixels.now (row * picture.stride + column)

-- The byte of the pixels of a module: 0 for black and 255 for white. The dark modules are black, or, in a symbol that is
-- light on dark, white [own]
abbrev pub drawn_byte : (is_inverse is_dark : Bool) → ℕ
drawn_byte is_inverse is_dark = if is_dark then (if is_inverse then 255 else 0) else (if is_inverse then 0 else 255)

-- Whether the module is dark that is drawn in this column and row. In a mirrored symbol columns and rows are exchanged [own]
abbrev pub drawn_dark : (is_mirrored : Bool) → (ℕ → ℕ → Bool) → ℕ → ℕ → Bool
drawn_dark is_mirrored dark column row = if is_mirrored then dark row column else dark column row

-- The square of modules is in the picture, and each module is a square of `f.scale` times `f.scale` pixels of one colour.
-- What is around the square does not matter [own]
pub record IsDrawn (picture : Picture) (f : Frame) (how : Sampling) (dark : ℕ → ℕ → Bool) : Type 0 where
  pub can_be : CanBePicture picture.width picture.height picture.stride
  pub across : f.left + how.side * f.scale ≤ picture.width
  pub down : f.top + how.side * f.scale ≤ picture.height
  pub pixels : (column row i j : ℕ) → column < how.side → row < how.side → i < f.scale → j < f.scale
      → pixel picture (f.left + column * f.scale + i) (f.top + row * f.scale + j) ≡ drawn_byte how.is_inverse (drawn_dark how.is_mirrored dark column row)

-- The coefficients of the form are `a`, `b` and `c` [own]
pub record HasCoefficients (form : Form) (a b c : ℕ) : Type 0 where
  pub first : form.a ≡ pos a
  pub second : form.b ≡ pos b
  pub third : form.c ≡ pos c

-- The map takes each place of the symbol to its place in the frame: an eighth of a module is `2 * f.scale` sixteenths of a
-- pixel. All coefficients may have a common factor [own]
pub record IsMapOf (f : Frame) (map : Map) : Type 0 where
  pub factor : ℕ
  pub positive : 0 < factor
  pub column : HasCoefficients map.column (factor * (2 * f.scale)) 0 (factor * (16 * f.left))
  pub row : HasCoefficients map.row 0 (factor * (2 * f.scale)) (factor * (16 * f.top))
  pub divisor : HasCoefficients map.divisor 0 0 factor
