-- What `qrproved_draw` writes, and when it refuses a buffer as too short. It draws `count` squares of `side` rows. The
-- buffer `modules` begins with a byte for each module, square by square and row by row.
use Rattle.std.specs.Prelude.{◌≡◌, ℕ, zero, suc, ◌*◌, ◌<◌, ◌≤◌, ◌==◌, ◌++◌, if◌then◌else◌, List, [], ◌∷◌, drop, length}
use Rattle.qr_matrix.specs.Grid.{Grid}
use Rattle.qr_drawing.specs.declared.drawing.Drawing.{Drawing}
use Rattle.qr_drawing.specs.declared.drawing.Drawing.TheVariants.{Ascii, AsciiInverse, Utf8, Svg}
use Rattle.qr_drawing.specs.Drawing.{drawn}
use Rattle.qrproved.specs.Modules.{square_of_bytes}

-- The type of drawing that the number `n` of a caller means: 0 is ASCII, 1 is inverse ASCII, 2 is UTF8 and 3 is SVG.
-- Numbers above 3 are out of range [own]
abbrev pub drawing_of : ℕ → Drawing
drawing_of n = if n == 0 then Ascii else (if n == 1 then AsciiInverse else (if n == 2 then Utf8 else Svg))

-- The numbers are in range. Of their bounds, 177 is the side of version 40 in modules, 16 is the number of symbols of
-- the longest series, and 100 is the greatest margin of the command [own]
abbrev pub AreDrawingSettings : (side count drawing margin : ℕ) → Type 0
AreDrawingSettings side count drawing margin =
    (1 ≤ side) × (side ≤ 177) × (1 ≤ count) × (count ≤ 16) × (drawing < 4) × (margin ≤ 100)

-- The squares that the first bytes of `bytes` give. There are `count` squares of `side` rows, one after the other, and
-- a byte for each module [own]
unfoldable pub squares_of_bytes : (side count : ℕ) → List ℕ → List Grid
squares_of_bytes side zero bytes = []
squares_of_bytes side (suc count) bytes = square_of_bytes side bytes ∷ squares_of_bytes side count (drop (side * side) bytes)

-- The drawing of the `count` squares that the first bytes of `bytes` give [own]
abbrev pub drawing_of_bytes : (side count drawing margin : ℕ) → List ℕ → List ℕ
drawing_of_bytes side count drawing margin bytes = drawn (drawing_of drawing) margin (squares_of_bytes side count bytes)

-- The call has put the text into the buffer. `before` has the bytes of the buffer before the call, and `after` those
-- after the call: first `text`, whose length is `len`, and then the bytes that are unchanged [own]
pub record HoldsText (text before after : List ℕ) (len : ℕ) : Type 0 where
  pub room : length text ≤ length before
  pub holds : after ≡ text ++ drop (length text) before
  pub told : len ≡ length text

-- The numbers are in range, which `Settings` states, but `modules` has fewer bytes than `count` squares of `side` rows
-- have modules [own]
pub record LacksModules (Settings : Type 0) (modules : List ℕ) (side count : ℕ) : Type 0 where
  pub settings : Settings
  pub few : length modules < count * (side * side)

-- The numbers are in range, which `Settings` states, and `modules` has enough bytes, but `text`, the buffer for
-- `written`, is shorter than this text [own]
pub record LacksTextRoom (Settings : Type 0) (modules : List ℕ) (side count : ℕ) (written text : List ℕ) : Type 0 where
  pub settings : Settings
  pub whole : count * (side * side) ≤ length modules
  pub room : length text < length written

-- The numbers are in range, but `modules` has fewer bytes than the squares have modules [own]
abbrev pub HasFewModules : (modules : List ℕ) (side count drawing margin : ℕ) → Type 0
HasFewModules modules side count drawing margin = LacksModules (AreDrawingSettings side count drawing margin) modules side count

-- The numbers are in range and `modules` has enough bytes, but `text`, the buffer for the drawing, is shorter than the
-- drawing [own]
abbrev pub HasNoTextRoom : (modules : List ℕ) (side count drawing margin : ℕ) (text : List ℕ) → Type 0
HasNoTextRoom modules side count drawing margin text =
    LacksTextRoom (AreDrawingSettings side count drawing margin) modules side count (drawing_of_bytes side count drawing margin modules) text
