-- Cells of a text, computed from the colours of their modules. Where the modules are given as the bits of a number, 1
-- is dark. The modules belong to the raster of the square `g` with the margin `margin`.
use Rattle.std.specs.Prelude.{◌≡◌, ℕ, ◌+◌, ◌*◌, ◌<◌, Bool, not, List}
use Rattle.qr_matrix.specs.Grid.{Grid}
use Rattle.qr_matrix.specs.BitRow.{has_bit}
use Rattle.qr_matrix.specs.Raster.{is_dark_at}
use Rattle.qr_drawing.specs.Raster.{texts_below}
use Rattle.qr_drawing.specs.Text.{ascii_module, half_blocks}
use Rattle.qr_drawing.specs.declared.text.TextStyle.{TextStyle}
use Rattle.qr_drawing.specs.declared.text.TextStyle.TheVariants.{Plain, Inverse, HalfBlocks}

-- The greatest number of bytes that a cell has in this style
abbrev pub cell_room : TextStyle → ℕ
cell_room Plain = 2
cell_room Inverse = 2
cell_room HalfBlocks = 3

-- The row of modules that line `y` of a text shows, or the upper one of its two rows in the style `HalfBlocks`. Lines
-- and rows are counted from 0
abbrev pub top_row : TextStyle → ℕ → ℕ
top_row Plain y = y
top_row Inverse y = y
top_row HalfBlocks y = 2 * y

-- The cell of the module `upper`, and in the style `HalfBlocks` also of the module `lower` below it. `true` is dark
abbrev pub cell_text : TextStyle → Bool → Bool → List ℕ
cell_text Plain upper lower = ascii_module upper
cell_text Inverse upper lower = ascii_module (not upper)
cell_text HalfBlocks upper lower = half_blocks upper lower

-- The cell that shows the module in row `row` and column `x` of the raster, and in the style `HalfBlocks` also the
-- module below it
abbrev pub cell_at : TextStyle → ℕ → Grid → ℕ → ℕ → List ℕ
cell_at style margin g row x = cell_text style (is_dark_at margin g row x) (is_dark_at margin g (row + 1) x)

-- A text of `n` cells from left to right. Cell `k` shows bit `k` of `upper` as a module, and in the style `HalfBlocks`
-- also bit `k` of `lower` as the module below it. Bit 0 is the lowest
abbrev pub bits_text : ℕ → TextStyle → ℕ → ℕ → List ℕ
bits_text n style upper lower = texts_below n (λ k. cell_text style (has_bit upper k) (has_bit lower k))

-- Two cells of the style `HalfBlocks`, which show four modules. The bits 0 and 1 of `pair` are the upper modules from
-- left to right, and the bits 2 and 3 the lower ones
abbrev pub pair_text : ℕ → List ℕ
pair_text pair = texts_below 2 (λ k. half_blocks (has_bit pair k) (has_bit pair (2 + k)))

-- The lowest eight bits of `bits` are eight neighbouring modules in row `row` of the raster, where 1 is dark. Bit 0 is
-- the module in column `col` of the square, bit 1 the one to its right, and so on. A bit whose column is outside the
-- square may be 0 or 1
abbrev pub AreDark : ℕ → Grid → ℕ → ℕ → ℕ → Type 0
AreDark margin g row col bits = (k : ℕ) → k < 8 → col + k < g.side → has_bit bits k ≡ is_dark_at margin g row (margin + (col + k))
