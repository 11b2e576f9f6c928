-- Where rows and squares of modules are among bytes: as blocks of the same length, one block after another.
use Rattle.{qr_matrix.specs.Grid.{Grid, colour}, qrproved.specs.Modules.{HoldsSquares, byte_of}}
use Rattle.std.proofs.{Common.{◌≡◌, ℕ, ◌+◌, ◌*◌, ◌<◌, ◌≤◌, ◌⊎◌, List, [], ◌∷◌, length, slice_index_or, arith}, Math.Nat.mul-le-mul_right}

-- a block ends before the later ones begin
pub block-end : (s k n : ℕ) → k < n → k * s + s ≤ n * s
block-end s k n l = search (arith, mul-le-mul_right)

-- an index inside a block is inside all blocks together
pub place-in : (s k c n : ℕ) → k < n → c < s → k * s + c < n * s
place-in s k c n l m = omega (arith, (block-end s k n l))

-- the bytes of one square are those of a list with this square alone
pub one-held : (side : ℕ) (g : Grid) (before after : List ℕ) → side ≡ g.side → side * side ≤ length before → length after ≡ length before
    → ((row col : ℕ) → row < g.side → col < g.side → slice_index_or after (0 + (row * g.side + col)) 0 ≡ byte_of (colour g row col))
    → ((i : ℕ) → (i < 0) ⊎ (0 + g.side * g.side ≤ i) → slice_index_or after i 0 ≡ slice_index_or before i 0)
    → HoldsSquares side (g ∷ []) before after
one-held side g before after same room long written kept = search arith
