-- Tables of a square of `side` times `side` values, row by row.
use Rattle.std.specs.Prelude.{◌≡◌, ℕ, List, ◌+◌, ◌*◌, ◌/◌, ◌%◌, ◌<◌, ◌≤◌, length, slice_index}

-- The table has the values `value column row` [own]
pub record IsTable (side : ℕ) (value : ℕ → ℕ → ℕ) (table : List ℕ) : Type 0 where
  pub room : side * side ≤ length table
  pub values : (k : ℕ) → k < side * side → slice_index table k ≡ value (k % side) (k / side)

-- The value of a table in a column and a row [own]
abbrev pub entry : ℕ → List ℕ → ℕ → ℕ → ℕ
entry side table column row = slice_index table (row * side + column)
