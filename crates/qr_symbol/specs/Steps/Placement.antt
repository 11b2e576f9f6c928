-- The colours after each step of drawing the codewords `cw` in version `v`. The bits of the codewords are numbered from
-- 0, and bit 0 is the highest bit of the first codeword.
--
-- `x` is a strip, and `first` the number of its first bit. The rows of the strip come in the order of filling, which is
-- upward or downward. `s` is the side of the symbol. `y` has the colours of the two columns of the strip, which are
-- rows of a transposed square. `region` has two such columns, in which a bit is set exactly if its module is in the
-- region. `before` and `after` have the colours of the two columns before and after a step.
use Rattle.std.specs.Prelude.{◌≡◌, ◌<◌, ◌≤◌, ℕ, ◌+◌, ◌-◌, ◌&&◌, Bool, false, true, if◌then◌else◌, List}
use Prim.Native.Nat.{zero, suc}
use Rattle.qr_layout.specs.declared.level.Level.{Level}
use Rattle.qr_layout.specs.declared.strips.Strip.{Strip}
use Rattle.qr_layout.specs.Version.{side_of}
use Rattle.qr_layout.specs.Format.{format_word_of}
use Rattle.qr_layout.specs.Order.{index_of}
use Rattle.qr_layout.specs.Region.{is_in_region}
use Rattle.qr_layout.specs.Role.{role_of}
use Rattle.qr_bits.specs.Bits.{codeword_bit}
use Rattle.qr_matrix.specs.{BitRow.has, Grid.{Grid, square, colour}}
use Rattle.qr_symbol.specs.declared.spans.Columns.{Columns}
use Rattle.qr_symbol.specs.Mask.{inverts, inverted}
use Rattle.qr_symbol.specs.Steps.{Patterns.{format_or, paint_of, symmetric_format}, Spans.row_of}
use Rattle.qr_matrix.specs.Penalty.{penalty_of}

-- The colour of the module in row `r` and column `c` when the codewords have been drawn without a mask. In the region
-- it is the codeword bit that the module contains, and elsewhere it is `other r c`.
unfoldable pub placed_colour : ℕ → List ℕ → (ℕ → ℕ → Bool) → ℕ → ℕ → Bool
placed_colour v cw other r c =
    if is_in_region v r c then codeword_bit cw (index_of v (record { row = r; col = c })) else other r c

-- The colour of the module in row `r` and column `c` when the codewords have been drawn under the mask. In the region
-- it is the codeword bit that the module contains, inverted where the mask inverts, and elsewhere it is `other r c`.
unfoldable pub walked_colour : ℕ → List ℕ → ℕ → (ℕ → ℕ → Bool) → ℕ → ℕ → Bool
walked_colour v cw mask other r c =
    if is_in_region v r c then inverted (inverts mask r c) (codeword_bit cw (index_of v (record { row = r; col = c }))) else other r c

-- The number of the next bit to be drawn when one more module has been passed, if it was `number` before. A module in
-- the region takes one bit, so there the number rises by 1.
abbrev pub number_after : Bool → ℕ → ℕ
number_after is_in number = if is_in then number + 1 else number

-- The number of the next bit to be drawn when the first `k` rows of the strip `x`, in the order of filling, have been
-- passed. Before the first row it is `first`.
abbrev pub number_at : ℕ → Strip → ℕ → ℕ → ℕ
number_at v x first zero = first
number_at v x first (suc k) =
    number_after (is_in_region v (row_of (side_of v) x k) (x.right - 1)) (number_after (is_in_region v (row_of (side_of v) x k) x.right) (number_at v x first k))

-- In all rows after the first `k` rows of the strip, in the order of filling, the modules of the region are light in
-- the two columns `y`.
abbrev pub AreLight : ℕ → Strip → ℕ → Columns → Columns → Type 0
AreLight s x k region y = (rank : ℕ) → k ≤ rank → rank < s
    → ((has region.right (row_of s x rank) && has y.right (row_of s x rank)) ≡ false) × ((has region.left (row_of s x rank) && has y.left (row_of s x rank)) ≡ false)

-- The `n` rows that follow the first `k` rows of the strip, in the order of filling, are light in both columns `y`.
abbrev pub AreLightRows : ℕ → Strip → ℕ → ℕ → Columns → Type 0
AreLightRows s x k n y = (j : ℕ) → k ≤ j → j < k + n → (has y.right (row_of s x j) ≡ false) × (has y.left (row_of s x j) ≡ false)

-- In the `n` rows that follow the first `k` rows of the strip, in the order of filling, all modules are in the region.
abbrev pub AreWhole : ℕ → Strip → ℕ → ℕ → Type 0
AreWhole v x k n = (j : ℕ) → k ≤ j → j < k + n
    → (is_in_region v (row_of (side_of v) x j) x.right ≡ true) × (is_in_region v (row_of (side_of v) x j) (x.right - 1) ≡ true)

-- `right` is the index of a strip's right column in the symbol. In the two columns `x` a bit is set exactly if its
-- module is in the region.
abbrev pub IsRegion : ℕ → ℕ → Columns → Type 0
IsRegion v right x = (row : ℕ) → row < side_of v → (has x.right row ≡ is_in_region v row right) × (has x.left row ≡ is_in_region v row (right - 1))

-- Drawing row `k` of the strip changes the colours of its two modules from `right` and `left` to `right'` and `left'`.
-- Rows are counted from 0 in the order of filling. A module in the region gets its bit, and a module outside the region
-- keeps its colour. The first bit of the strip has the number `first`.
abbrev pub IsRowDrawn : ℕ → List ℕ → Strip → ℕ → ℕ → (right left right' left' : Bool) → Type 0
IsRowDrawn v cw x first k right left right' left' =
    (right' ≡ (if is_in_region v (row_of (side_of v) x k) x.right then codeword_bit cw (number_at v x first k) else right))
    × (left' ≡ (if is_in_region v (row_of (side_of v) x k) (x.right - 1) then codeword_bit cw (number_after (is_in_region v (row_of (side_of v) x k) x.right) (number_at v x first k)) else left))

-- Drawing the `n` rows after the first `k` rows of the strip, in the order of filling, changes the strip's two columns
-- from `before` to `after`. All other rows keep their colours. The first bit of the strip has the number `first`.
pub record AreDrawn (v : ℕ) (cw : List ℕ) (x : Strip) (first k n : ℕ) (before after : Columns) : Type 0 where
  pub drawn : (j : ℕ) → k ≤ j → j < k + n
      → IsRowDrawn v cw x first j (has before.right (row_of (side_of v) x j)) (has before.left (row_of (side_of v) x j)) (has after.right (row_of (side_of v) x j)) (has after.left (row_of (side_of v) x j))
  pub kept : (row : ℕ) → ((j : ℕ) → k ≤ j → j < k + n → row_of (side_of v) x j ≡ row → ⊥) → (has after.right row ≡ has before.right row) × (has after.left row ≡ has before.left row)

-- The colour of the module in row `r` and column `c` after two steps, which begin with the square `unmasked`. First the
-- mask is applied to the modules that are dark in `region`. Then the format information, the number `format`, is drawn.
unfoldable pub masked_colour : ℕ → ℕ → ℕ → Grid → Grid → ℕ → ℕ → Bool
masked_colour v format mask region unmasked r c = format_or format (role_of v r c) (inverted (colour region r c && inverts mask r c) (colour unmasked r c))

-- The square that two steps make of the square `unmasked`. First the mask `mask` is applied to the modules that are
-- dark in `region`. Then the format information of level `l` and this mask is drawn.
abbrev pub masked_grid : ℕ → Level → ℕ → Grid → Grid → Grid
masked_grid v l mask region unmasked = square (side_of v) (masked_colour v (format_word_of l mask) mask region unmasked)

-- A square of version `v` in which exactly the modules of the region are dark.
abbrev pub region_grid : ℕ → Grid
region_grid v = square (side_of v) (is_in_region v)

-- The symbol that contains the codewords `cw`, before a mask is applied. Of its format information only the modules of
-- bit 7 are dark.
abbrev pub unmasked_grid : ℕ → List ℕ → Grid
unmasked_grid v cw = square (side_of v) (placed_colour v cw (paint_of v symmetric_format))

-- The penalty of the square that `masked_grid` makes of the square `unmasked`: the mask `mask` is applied to the
-- modules that are dark in `region`, and then the format information of level `l` and this mask is drawn.
abbrev pub masked_penalty : ℕ → Level → Grid → Grid → ℕ → ℕ
masked_penalty v l region unmasked mask = penalty_of (side_of v) (colour (masked_grid v l mask region unmasked))
