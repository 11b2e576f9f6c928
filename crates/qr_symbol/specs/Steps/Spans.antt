-- The rows of a strip, and its spans. `s` is the side of the symbol, and `x` the strip. `region` has the two columns of
-- the strip, in which a bit is set exactly if its module is in the region. The rows of a strip come in the order of
-- filling, which is upward or downward.
use Rattle.std.specs.Prelude.{◌≡◌, ◌<◌, ◌≤◌, ℕ, ◌+◌, ◌-◌, ◌%◌, ◌&&◌, ◌||◌, false, true, not, if◌then◌else◌, Option, MatchOption}
use Rattle.qr_layout.specs.declared.strips.Strip.{Strip}
use Rattle.qr_matrix.specs.BitRow.{has}
use Rattle.qr_symbol.specs.declared.spans.{Columns.Columns, RegionRows.RegionRows, Span.Span, Span.TheVariants.{Both, Right, Left, Outside}, Spans.Spans}

-- The row of the symbol, counted from the top, that follows the first `rank` rows of the strip in the order of filling.
abbrev pub row_of : ℕ → Strip → ℕ → ℕ
row_of s x rank = if x.upward then s - 1 - rank else rank

-- The index, counted from the top, of the topmost of the `n` rows that follow the first `k` rows of the strip in the
-- order of filling.
abbrev pub top_row : ℕ → Strip → ℕ → ℕ → ℕ
top_row s x k n = if x.upward then s - n - k else k

-- Neither of the two columns `x` has a set bit from row `s` on, where the symbol has no rows.
abbrev pub AreWithin : ℕ → Columns → Type 0
AreWithin s x = (row : ℕ) → s ≤ row → (has x.right row ≡ false) × (has x.left row ≡ false)

-- `rows.both` and `rows.neither` have a bit for each row of the strip. In `rows.both` this bit is 1 exactly if both
-- modules of the row are in the region, and in `rows.neither` exactly if both are outside the region.
abbrev pub AreRegionRows : Columns → RegionRows → Type 0
AreRegionRows region rows = ((row : ℕ) → has rows.both row ≡ (has region.right row && has region.left row))
    × ((row : ℕ) → row < 192 → has rows.neither row ≡ not (has region.right row || has region.left row))

-- In the `n` rows that follow the first `k` rows of the strip, in the order of filling, all modules are in the region.
abbrev pub AreWholeRows : ℕ → Strip → ℕ → ℕ → Columns → Type 0
AreWholeRows s x k n region = (j : ℕ) → k ≤ j → j < k + n
    → (has region.right (row_of s x j) ≡ true) × (has region.left (row_of s x j) ≡ true)

-- In the `n` rows that follow the first `k` rows of the strip, in the order of filling, no module is in the region.
abbrev pub AreOutside : ℕ → Strip → ℕ → ℕ → Columns → Type 0
AreOutside s x k n region = (j : ℕ) → k ≤ j → j < k + n
    → (has region.right (row_of s x j) ≡ false) × (has region.left (row_of s x j) ≡ false)

-- The span consists of the `n` rows that follow the first `k` rows of the strip in the order of filling. `Both` has at
-- most `most` rows, whose bits are in one word of 64 bits and whose modules are all in the region. `Right` is one row
-- of which only the right module is in the region, `Left` is one row of which only the left module is, and `Outside`
-- has no module in the region.
abbrev pub IsSpan : ℕ → Strip → Columns → ℕ → ℕ → ℕ → Span → Type 0
IsSpan s x region most k n (Both top count) =
    (n ≡ count) × (1 ≤ count) × (count ≤ most) × (top ≡ top_row s x k count) × (top % 64 + count ≤ 64) × AreWholeRows s x k count region
IsSpan s x region most k n (Right row) =
    (n ≡ 1) × (row ≡ row_of s x k) × (has region.right row ≡ true) × (has region.left row ≡ false)
IsSpan s x region most k n (Left row) =
    (n ≡ 1) × (row ≡ row_of s x k) × (has region.right row ≡ false) × (has region.left row ≡ true)
IsSpan s x region most k n Outside = (1 ≤ n) × AreOutside s x k n region

-- What always holds of an iterator over the spans of a strip. The side of the symbol is at most 177 modules, that of
-- version 40. The limit `most` for the rows of a span `Both` is at least 1. The iterator has not passed more rows than
-- the strip has.
pub record AreSpans (a : Spans) : Type 0 where
  pub rows : AreRegionRows a.region a.rows
  pub side : a.side ≤ 177
  pub some : 1 ≤ a.most
  pub passed : a.passed ≤ a.side

-- The iterator goes over the spans of the strip `x` in a symbol with the side `s`. In `columns` a bit is set exactly if
-- its module is in the region. A span `Both` has at most `limit` rows.
pub record AreSpansOf (s : ℕ) (x : Strip) (columns : Columns) (limit : ℕ) (a : Spans) : Type 0 where
  pub side : a.side ≡ s
  pub strip : a.strip ≡ x
  pub region : a.region ≡ columns
  pub most : a.most ≡ limit

-- A call of `next` changes the iterator from `a` to `b`. The call returns the span that begins where the spans of
-- earlier calls end. If those spans have reached the end of the strip, the call returns `None`.
pub record YieldsSpan (a : Spans) (span : Option Span) (b : Spans) : Type 0 where
  pub same : AreSpansOf a.side a.strip a.region a.most b
  pub is : MatchOption span (a.passed ≡ a.side) (λ y. (n : ℕ) × (b.passed ≡ a.passed + n) × IsSpan a.side a.strip a.region a.most a.passed n y)
