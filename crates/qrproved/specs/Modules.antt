-- The modules of squares as bytes, one for each module: square by square, and each square row by row. A square has
-- `side` rows. `before` is a buffer before the call, and `after` this buffer after it.
use Rattle.std.specs.Prelude.{◌≡◌, ℕ, ◌+◌, ◌*◌, ◌<◌, ◌≤◌, List, length, slice_index_or}
use Rattle.qr_matrix.specs.Grid.{Grid, colour, light}
pub use Rattle.qr_matrix.specs.Bytes.{byte_of, square_of_bytes}

-- The modules of `squares` are at the beginning of the buffer after the call, and the rest of the buffer is unchanged
-- [own]
pub record HoldsSquares (side : ℕ) (squares : List Grid) (before after : List ℕ) : Type 0 where
  pub room : length squares * (side * side) ≤ length before
  pub long : length after ≡ length before
  pub modules : (k row col : ℕ) → k < length squares → row < side → col < side → slice_index_or after (k * (side * side) + (row * side + col)) 0 ≡ byte_of (colour (slice_index_or squares k (light 0)) row col)
  pub others : (i : ℕ) → length squares * (side * side) ≤ i → slice_index_or after i 0 ≡ slice_index_or before i 0
