-- What two laws cite: examples of squares, and a statement about squares whose modules are written as bytes. For each
-- example the penalty was counted by hand, and a law compares it with the definition of the penalty. `r` is the row of
-- a module and `c` its column, and `true` is dark.
use Rattle.std.specs.Prelude.{◌≡◌, ℕ, ◌+◌, ◌*◌, ◌<◌, ◌%◌, ◌&&◌, ◌||◌, ◌==◌, nat_le, Bool, true, false, List, slice_index_or}
use Rattle.qr_matrix.specs.Grid.{Grid, colour}
use Rattle.qr_matrix.specs.Bytes.{byte_of, square_of_bytes}

-- A square that is dark everywhere [own]
abbrev pub all_dark : ℕ → ℕ → Bool
all_dark r c = true

-- A square that is light everywhere [own]
abbrev pub all_light : ℕ → ℕ → Bool
all_light r c = false

-- A square in which dark and light alternate in each row and each column. The module at the top left is dark [own]
abbrev pub chequered : ℕ → ℕ → Bool
chequered r c = (r + c) % 2 == 0

-- A row or column in which all modules are light, except that the seven modules from module `k` on have the ratio
-- 1:1:3:1:1 of a finder pattern [own]
abbrev pub ratio_from : ℕ → ℕ → Bool
ratio_from k c = c == k || (nat_le (k + 2) c && nat_le c (k + 4)) || c == k + 6

-- A square in which all modules are light, except that seven modules of row 0, from column `k` on, have the ratio
-- 1:1:3:1:1 of a finder pattern [own]
abbrev pub ratio_in_a_row : ℕ → ℕ → ℕ → Bool
ratio_in_a_row k r c = r == 0 && ratio_from k c

-- A square in which all modules are light, except that seven modules of column 10, from row `k` on, have the ratio
-- 1:1:3:1:1 of a finder pattern [own]
abbrev pub ratio_in_a_column : ℕ → ℕ → ℕ → Bool
ratio_in_a_column k r c = c == 10 && ratio_from k r

-- If the modules of the square `g` are written as bytes, row by row, the square that is read from these bytes has the
-- same colours [own]
abbrev pub BytesAreTheirSquare : Type 0
BytesAreTheirSquare = (side : ℕ) (g : Grid) (bytes : List ℕ)
    → ((row col : ℕ) → row < side → col < side → slice_index_or bytes (row * side + col) 0 ≡ byte_of (colour g row col))
    → (row col : ℕ) → row < side → col < side → colour (square_of_bytes side bytes) row col ≡ colour g row col
