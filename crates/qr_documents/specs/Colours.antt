-- The colours of PDF documents. A colour is a number 0xRRGGBB, which has eight bits each for red, green and blue. A
-- square is `width` modules wide and high, its margin included, and a module is the unit of length.
use Rattle.std.specs.Prelude.{ℕ, ◌+◌, ◌*◌, ◌/◌, ◌%◌, List, [], ◌++◌, codes, Option, None, Some}
use Rattle.qr_documents.specs.declared.colours.Colours.{Colours}
use Rattle.qr_documents.specs.Measures.{fraction}
use Rattle.qr_drawing.specs.Svg.{numbered}

-- An amount of red, green or blue, 0 to 255, as a share of 255: a number from 0 to 1. It is rounded to the nearest
-- number with three digits after the point, so that 128 is `0.502` (ISO 32000-1, 8.6.4.3)
unfoldable pub share : ℕ → List ℕ
share amount = fraction 3 ((2000 * amount + 255) / 510)

-- The command that chooses the colour in which boxes are filled, by its shares of red, green and blue (ISO 32000-1,
-- 8.6.8)
unfoldable pub fill_colour : ℕ → List ℕ
fill_colour colour =
    share (colour / 65536 % 256) ++ codes " " ++ share (colour / 256 % 256) ++ codes " " ++ share (colour % 256) ++ codes " rg"

-- The rest of the commands that fill a whole square, after the command that chooses the colour (ISO 32000-1, 8.5.2,
-- 8.5.3.1)
unfoldable pub filled_square : ℕ → List ℕ
filled_square width = numbered (codes " 0 0 ") width ++ numbered (codes " ") width ++ codes " re f\n"

-- The commands that fill a square with the light colour. If there is none, the square is not filled, and what is below
-- it shows through [own]
unfoldable pub coloured_square : Option ℕ → ℕ → List ℕ
coloured_square None width = []
coloured_square (Some light) width = fill_colour light ++ filled_square width

-- The commands that make a square light: white in a document without colours (ISO 32000-1, 8.6.8)
unfoldable pub light_square : Option Colours → ℕ → List ℕ
light_square None width = codes "1 g" ++ filled_square width
light_square (Some colours) width = coloured_square colours.light width

-- The line that chooses the colour of dark modules: black in a document without colours (ISO 32000-1, 8.6.8)
unfoldable pub dark_colour : Option Colours → List ℕ
dark_colour None = codes "0 g\n"
dark_colour (Some colours) = fill_colour colours.dark ++ codes "\n"
