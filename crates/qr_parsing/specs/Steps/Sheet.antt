-- Sheets. A drawing is turned into a sheet, a list of bytes in which the index of the byte that shows a module can be
-- computed. Each raster of the drawing is `width` modules wide. `k` is the index of a raster, and `y` and `x` are a row
-- and a column of this raster, all counted from 0.
use Rattle.std.specs.Prelude.{◌≡◌, ℕ, ◌+◌, ◌*◌, ◌/◌, ◌%◌, ◌<◌, ◌==◌, ◌⊎◌, Bool, ◌||◌, if◌then◌else◌, List, drop, length, slice_index_or}
use Rattle.qr_matrix.specs.Grid.{Grid}
use Rattle.qr_matrix.specs.Raster.{is_dark_at, raster_width}
use Rattle.qr_drawing.specs.Svg.{square_at}
use Rattle.qr_drawing.specs.declared.drawing.Drawing.{Drawing}
use Rattle.qr_drawing.specs.declared.drawing.Drawing.TheVariants.{Ascii, AsciiInverse, Utf8, Svg}
use Rattle.qr_parsing.specs.Parsing.{IsDrawingOf}
use Rattle.qr_parsing.specs.Steps.{Svg.{painted_bytes, numbers_in}, Text.{cells_in, first_line, has_block}}

-- In the sheet of a drawing of this type, the index of the byte that shows the module in row `y` and column `x` of the
-- raster `k`. If two bytes show the module, it is the index of the first. Rasters, rows and columns are counted from 0,
-- and a raster is `width` modules wide
abbrev pub index_of : Drawing → ℕ → ℕ → ℕ → ℕ → ℕ
index_of Ascii width k y x = (k * width + y) * (2 * width + 1) + 2 * x
index_of AsciiInverse width k y x = (k * width + y) * (2 * width + 1) + 2 * x
index_of Utf8 width k y x = (k * ((width + 1) / 2) + y / 2) * (width + 1) + x
index_of Svg width k y x = (k * width + y) * width + x

-- In the sheet of a drawing of this type, `byte` shows a dark module. The module is in row `y` of its raster. In a UTF8
-- sheet a byte shows two modules, of which the upper one is in an even row
abbrev pub is_dark_byte : Drawing → ℕ → ℕ → Bool
is_dark_byte Ascii y byte = byte == 35
is_dark_byte AsciiInverse y byte = byte == 32
is_dark_byte Utf8 y byte = byte == 32 || byte == (if y % 2 == 0 then 0x84 else 0x80)
is_dark_byte Svg y byte = byte == 1

-- The byte is one of the two `signs`, the bytes that show a dark module
abbrev pub is_sign : ℕ × ℕ → ℕ → Bool
is_sign signs byte = byte == signs.0 || byte == signs.1

-- The sheet `bytes` of a drawing of this type shows a dark module in row `y` and column `x` of the raster `k`
unfoldable pub is_dark_on : Drawing → ℕ → List ℕ → ℕ → ℕ → ℕ → Bool
is_dark_on kind width bytes k y x = is_dark_byte kind y (slice_index_or bytes (index_of kind width k y x) 0)

-- The sheet `bytes` is long enough to have a byte for each module of its `count` rasters
abbrev pub HasPlaces : Drawing → ℕ → ℕ → List ℕ → Type 0
HasPlaces kind width count bytes = (k y x : ℕ) → k < count → y < width → x < width → index_of kind width k y x < length bytes

-- The sheet `bytes` shows the modules of the squares, with this margin around each. `count` is the number of squares,
-- and `width` the width of a raster
pub record ShowsOn (kind : Drawing) (width count : ℕ) (bytes : List ℕ) (margin : ℕ) (squares : List Grid) : Type 0 where
  pub width_is : width ≡ raster_width margin (square_at squares 0)
  pub count_is : count ≡ length squares
  pub places : (k y x : ℕ) → k < count → y < width → x < width
      → is_dark_on kind width bytes k y x ≡ is_dark_at margin (square_at squares k) y x

-- The type of the drawing, if the text is one. A text that begins with `<` can only be an SVG document, and one with a
-- block character only a UTF8 text. In the other two types byte 14, counted from 0, belongs to a light module. So it is
-- a space if the text is an ASCII text, and another byte if the text is an inverse ASCII text
abbrev pub kind_in : List ℕ → Drawing
kind_in text =
    if slice_index_or text 0 0 == 60 then Svg else
    (if has_block text then Utf8 else
    (if slice_index_or text 14 0 == 32 then Ascii else AsciiInverse))

-- The width of each raster in modules, if the text is a drawing of this type. In an SVG document it is the number with
-- the index 9 among all numbers in the document, counted from 0
abbrev pub width_in : Drawing → List ℕ → ℕ
width_in Ascii text = first_line text / 2
width_in AsciiInverse text = first_line text / 2
width_in Utf8 text = first_line (cells_in text)
width_in Svg text = slice_index_or (numbers_in text) 9 0

-- The bytes of the sheet, if the text is a drawing of this type. Among all numbers in an SVG document, counted from 0,
-- the number with the index 10 is the height of the document in modules, and the numbers from the index 16 on give the
-- boxes
abbrev pub bytes_in : Drawing → List ℕ → List ℕ
bytes_in Ascii text = text
bytes_in AsciiInverse text = text
bytes_in Utf8 text = cells_in text
bytes_in Svg text = painted_bytes (width_in Svg text) (slice_index_or (numbers_in text) 10 0) (drop 16 (numbers_in text))

-- The number of rasters, if the text is a drawing of this type
abbrev pub count_in : Drawing → List ℕ → ℕ
count_in Ascii text = length text / (width_in Ascii text * (2 * width_in Ascii text + 1))
count_in AsciiInverse text = length text / (width_in AsciiInverse text * (2 * width_in AsciiInverse text + 1))
count_in Utf8 text = length (cells_in text) / ((width_in Utf8 text + 1) / 2 * (width_in Utf8 text + 1))
count_in Svg text = slice_index_or (numbers_in text) 10 0 / width_in Svg text

-- `bytes` lists the bytes of the sheet that the code makes from the text. `kind` is the type of the drawing, `width`
-- the width of each raster in modules, and `count` the number of rasters. If the text is no drawing, `bytes` may be
-- anything
pub record IsSheetOf (kind : Drawing) (width count : ℕ) (bytes text : List ℕ) : Type 0 where
  pub kind_is : kind ≡ kind_in text
  pub width_is : width ≡ width_in kind text
  pub count_is : count ≡ count_in kind text
  pub bytes_is : (k : Drawing) (margin : ℕ) (squares : List Grid) → IsDrawingOf k margin squares text → bytes ≡ bytes_in kind text

-- The text cannot be a drawing, because its rasters would be narrower than 8 modules or wider than 687, or there would
-- be more than 16 of them. A raster that is 687 modules wide has the greatest symbol, 177 modules wide, and a margin of
-- 255 modules on each side
abbrev pub HasNoSheet : List ℕ → Type 0
HasNoSheet text = ((width_in (kind_in text) text < 8) ⊎ (687 < width_in (kind_in text) text)) ⊎ (16 < count_in (kind_in text) text)
