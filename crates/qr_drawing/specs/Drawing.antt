-- Which bytes are written to draw symbols, for each type of drawing.
use Rattle.std.specs.Prelude.{◌≡◌, ℕ, List}
use Rattle.std.specs.List.{All, flat_map}
use Rattle.qr_matrix.specs.Grid.{Grid}
use Rattle.qr_drawing.specs.declared.drawing.Drawing.{Drawing}
use Rattle.qr_drawing.specs.declared.drawing.Drawing.TheVariants.{Ascii, AsciiInverse, Utf8, Svg}
use Rattle.qr_drawing.specs.Svg.{square_at, svg_document}
use Rattle.qr_drawing.specs.Text.{text_drawing}
use Rattle.qr_drawing.specs.declared.text.TextStyle.TheVariants.{Plain, Inverse, HalfBlocks}

-- All squares have the same side. The symbols of a series do, and so one SVG document can show them below one another
-- [own]
abbrev pub HaveOneSide : List Grid → Type 0
HaveOneSide squares = All (λ g. g.side ≡ (square_at squares 0).side) squares

-- The bytes of a drawing of the squares. Around each square is a light margin of `margin` modules. In ASCII, inverse
-- ASCII and UTF8 each square is drawn as a text, and these texts come one after the other. An SVG drawing is one
-- document for all squares [own]
abbrev pub drawn : Drawing → ℕ → List Grid → List ℕ
drawn Ascii margin squares = flat_map (text_drawing Plain margin) squares
drawn AsciiInverse margin squares = flat_map (text_drawing Inverse margin) squares
drawn Utf8 margin squares = flat_map (text_drawing HalfBlocks margin) squares
drawn Svg margin squares = svg_document margin squares
