-- What a label is: a symbol in characters, with its text below. Characters are numbers: 35 is `#`, 32 is a space, and
-- 10 is a line feed.
use Rattle.std.specs.Prelude.{◌≡◌, ℕ, Bool, if◌then◌else◌, List, [], ◌∷◌, ◌++◌, map}
use Rattle.std.specs.List.{flat_map, range_with_len}
use Rattle.qr_layout.specs.declared.level.Level.{Level}
use Rattle.qr_bits.specs.declared.modes.Rule.TheVariants.{Auto}
use Rattle.qr_bits.specs.declared.interpretation.Interpretation.TheVariants.{Default}
use Rattle.qr_matrix.specs.Grid.{Grid, colour}
use Rattle.qr_symbol.specs.Encoding.{IsSymbol}

-- The character that shows a module: `#` if it is dark, and a space if it is light [own]
abbrev pub character_of : Bool → ℕ
character_of dark = if dark then 35 else 32

-- One row of modules as a line of text: a character for each module from left to right, and then a line feed [own]
abbrev pub line_of_row : Grid → ℕ → List ℕ
line_of_row g row = map (λ col. character_of (colour g row col)) (range_with_len 0 g.side) ++ 10 ∷ []

-- `text` is the label of `words`. It has a line for each row of the symbol of `words`, from the top down, and then a
-- line with `words` itself. The symbol may use all modes but kanji mode [own]
pub record IsLabel (words : List ℕ) (level : Level) (smallest : ℕ) (text : List ℕ) : Type 0 where
  pub version : ℕ
  pub mask : ℕ
  pub square : Grid
  pub symbol : IsSymbol smallest level Auto Default words version mask square
  pub drawn : text ≡ flat_map (line_of_row square) (range_with_len 0 square.side) ++ (words ++ 10 ∷ [])
