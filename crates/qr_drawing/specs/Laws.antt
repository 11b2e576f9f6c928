-- The characters of drawings, worked out by hand, with which a law compares the definitions.
use Rattle.std.specs.Prelude.{◌≡◌, [], ◌∷◌, codes, true, false}
use Rattle.qr_drawing.specs.Text.{ascii_module, half_blocks, line_count}
use Rattle.qr_drawing.specs.declared.text.TextStyle.TheVariants.{HalfBlocks}

-- The characters that show modules. In UTF-8 the lower half block U+2584, the upper half block U+2580 and the full
-- block U+2588 have three bytes each. A symbol of version 1 with a margin of four modules has 29 rows of modules, which
-- take 15 lines of half blocks [own]
pub record CharactersOfModules : Type 0 where
  pub dark : ascii_module true ≡ codes "##"
  pub light : ascii_module false ≡ codes "  "
  pub both_dark : half_blocks true true ≡ codes " "
  pub lower_light : half_blocks true false ≡ 0xE2 ∷ 0x96 ∷ 0x84 ∷ []
  pub upper_light : half_blocks false true ≡ 0xE2 ∷ 0x96 ∷ 0x80 ∷ []
  pub both_light : half_blocks false false ≡ 0xE2 ∷ 0x96 ∷ 0x88 ∷ []
  pub odd_rows : line_count HalfBlocks 29 ≡ 15
