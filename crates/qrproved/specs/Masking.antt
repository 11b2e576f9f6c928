-- What `qrproved_set_mask` writes. The square has `side` rows. `before` is the buffer before the call and begins with a byte
-- for each module of the square, row by row. `after` is the buffer after the call.
use Rattle.std.specs.Prelude.{ℕ, ◌*◌, ◌≤◌, List, [], ◌∷◌, length}
use Rattle.qr_matrix.specs.Grid.{Grid}
use Rattle.qr_symbol.specs.Redrawing.{IsRedrawn}
use Rattle.qrproved.specs.Modules.{HoldsSquares, square_of_bytes}

-- The modules that `before` begins with are those of a symbol with some mask. After the call the buffer has the modules of
-- this symbol under the mask `mask` in their place [own]
pub record IsMasked (side mask : ℕ) (before after : List ℕ) : Type 0 where
  pub whole : side * side ≤ length before
  pub square : Grid
  pub drawn : IsRedrawn (square_of_bytes side before) mask square
  pub holds : HoldsSquares side (square ∷ []) before after
