-- The modules of a square as bits, one for each module and row by row, without gaps between two rows. The square has
-- `side` rows. `before` is a buffer before the call, and `after` this buffer after it.
use Rattle.std.specs.Prelude.{◌≡◌, ℕ, ◌+◌, ◌*◌, ◌/◌, ◌<◌, ◌≤◌, false, Bool, List, length, slice_index_or}
use Rattle.qr_bits.specs.Bits.{codeword_bit}
use Rattle.qr_matrix.specs.Grid.{Grid, colour, square}

-- Bit `k` of the bytes, where bit 0 is the highest bit of the first byte, as with codewords [own]
abbrev pub bit_of : List ℕ → ℕ → Bool
bit_of bytes k = codeword_bit bytes k

-- The number of bytes that have the bits of a square: the least number that has as many bits as the square has modules
-- [own]
abbrev pub bytes_of_bits : (side : ℕ) → ℕ
bytes_of_bits side = (side * side + 7) / 8

-- The square of `side` rows whose modules are the first bits of `bytes`, row by row. A module is dark if its bit is 1
-- [own]
abbrev pub square_of_bits : ℕ → List ℕ → Grid
square_of_bits side bytes = square side (λ row col. bit_of bytes (row * side + col))

-- The modules of the square `g` are the first bits of the buffer after the call. The bits that are left in the last of
-- their bytes are 0, and the rest of the buffer is unchanged [own]
pub record HoldsBits (g : Grid) (before after : List ℕ) : Type 0 where
  pub room : bytes_of_bits g.side ≤ length before
  pub long : length after ≡ length before
  pub modules : (row col : ℕ) → row < g.side → col < g.side → bit_of after (row * g.side + col) ≡ colour g row col
  pub unused : (k : ℕ) → g.side * g.side ≤ k → k < 8 * bytes_of_bits g.side → bit_of after k ≡ false
  pub others : (i : ℕ) → bytes_of_bits g.side ≤ i → slice_index_or after i 0 ≡ slice_index_or before i 0
