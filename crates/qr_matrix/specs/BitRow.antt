-- Bit rows. A bit row stores a row of modules in three words of 64 bits. Bit `c` of a bit row is the module in column
-- `c`, and is 1 if this module is dark. Bit 0 is the lowest bit of the first word. A square is stored as a list of bit
-- rows, from the top down.
use Rattle.std.specs.Prelude.{ℕ, ◌+◌, ◌*◌, ◌^◌, Bool, ◌==◌, List, slice_index, slice_index_or, []}
use Rattle.std.specs.Int.{bit_at}

-- The three words of a bit row as one number, whose lowest 64 bits are the first word [own]
unfoldable pub bit_row_number : List ℕ → ℕ
bit_row_number words = (slice_index words 2 * 2 ^ 64 + slice_index words 1) * 2 ^ 64 + slice_index words 0

-- Bit `c` of the number `n` is 1, where bit 0 is the lowest [own]
unfoldable pub has_bit : ℕ → ℕ → Bool
has_bit n c = bit_at n c == 1

-- Bit `c` of a bit row is 1, where bit 0 is the lowest bit of the first word [own]
unfoldable pub has : List ℕ → ℕ → Bool
has words c = has_bit (bit_row_number words) c

-- The module in row `r` and column `c` of a square is dark. `rows` are the bit rows of the square, and below the last
-- of them every module counts as light [own]
unfoldable pub dark_in : List (List ℕ) → ℕ → ℕ → Bool
dark_in rows r c = has (slice_index_or rows r []) c
