-- Rows with one pattern, which are twelve rows apart.
use Rattle.std.proofs.{Common.{◌≡◌, ℕ, ◌+◌, ◌%◌, Bool, cond, eqb, ltb, ◌&&◌, arith}, lemmas.Bool.Decides.nat_tests}

-- row r is one of the rows with the pattern of row `first`, before row n
abbrev pub is-passed : ℕ → ℕ → ℕ → Bool
is-passed first n r = eqb (r % 12) first && ltb r n

-- after row `row` is set to the colour l, which is that of the pattern
pub passed-step : (first row r : ℕ) (l x y : Bool) → row % 12 ≡ first → (r ≡ row → l ≡ x)
    → cond (eqb r row) l (cond (is-passed first row r) x y) ≡ cond (is-passed first (row + 12) r) x y
passed-step first row r l x y t e = grind (arith, nat_tests)
