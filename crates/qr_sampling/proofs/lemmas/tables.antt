-- Tables of a square.
use Rattle.std.proofs.Common.{◌≡◌, ℕ, zero, suc, ◌+◌, ◌*◌, ◌/◌, ◌%◌, ◌<◌, ◌∙◌, List, get_or, ap, arith}
use Rattle.std.proofs.{Math.Nat.div-lt_iff_lt-mul, lemmas.Nat.{div-mul-add, mod-mul-add}}
use Rattle.qr_sampling.specs.Tables.{IsTable}

-- the index of a place is in the square
pub index-in : (side column row : ℕ) → column < side → row < side → row * side + column < side * side
index-in side column row h k = grind arith

positive : (side k : ℕ) → k < side * side → 0 < side
positive zero k h = absurd (omega arith)
positive (suc side) k h = omega arith

-- the row of an index of the square
pub row-in : (side k : ℕ) → k < side * side → k / side < side
row-in side k h = (div-lt_iff_lt-mul (positive side k h)).1 h

-- the column of an index of the square
pub column-in : (side k : ℕ) → k < side * side → k % side < side
column-in side k h = let p = positive side k h in omega arith

-- the side of a square with an index in it
pub side-in : (side k : ℕ) → k < side * side → 0 < side
side-in = positive

-- the value of a table in a column and a row
pub entry-is : (side : ℕ) (f : ℕ → ℕ → ℕ) (t : List ℕ) (column row k : ℕ) → IsTable side f t → column < side → row < side → k ≡ row * side + column
    → get_or t k 0 ≡ f column row
entry-is side f t column row k is h l e =
    ap (λ z. get_or t z 0) e ∙ (is.values (row * side + column) (index-in side column row h l)
    ∙ (ap (λ z. f z ((row * side + column) / side)) (mod-mul-add row side column h) ∙ ap (λ z. f column z) (div-mul-add row side column h)))

-- two functions with the same values have the same tables
pub table-same : (side : ℕ) (f g : ℕ → ℕ → ℕ) (t : List ℕ) → ((column row : ℕ) → f column row ≡ g column row) → IsTable side f t → IsTable side g t
table-same side f g t e is = record { room = is.room; values = λ k h. is.values k h ∙ e (k % side) (k / side) }
