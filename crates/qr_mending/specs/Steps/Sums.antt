-- Values of polynomials over the field of 256 elements, and sums of products. In the lists `e` and `r`, the coefficient
-- of the highest power of a polynomial comes first.
use Rattle.std.specs.Prelude.{◌≡◌, ℕ, ◌+◌, ◌<◌, List, [], ◌∷◌, length, bit_xor, slice_index}
use Rattle.qr_field.specs.Galois.{product}
use Rattle.qr_field.specs.Steps.Polynomial.{value_at}

-- The sum of the products of items of the two lists at equal indices, in the field of 256 elements. If one list is
-- longer, its further items do not count.
abbrev pub dot_of : List ℕ → List ℕ → ℕ
dot_of [] w = 0
dot_of (a ∷ p) [] = 0
dot_of (a ∷ p) (b ∷ w) = bit_xor (product a b) (dot_of p w)

-- The value at `x` of the polynomial with the coefficients `p`, that of the lowest power first.
abbrev pub eval : ℕ → List ℕ → ℕ
eval x [] = 0
eval x (a ∷ p) = bit_xor a (product x (eval x p))

-- The sum of the items of `p`, each multiplied by a value of the polynomial `e`: item k, counted from 0, is multiplied
-- by the value at 2 to the power `i` + k.
abbrev pub blend : List ℕ → ℕ → List ℕ → ℕ
blend [] i e = 0
blend (a ∷ p) i e = bit_xor (product a (value_at i e)) (blend p (i + 1) e)

-- Item k of `s`, counted from 0, is the value of the polynomial `e` at 2 to the power k.
pub record HasValues (s e : List ℕ) : Type 0 where
  pub each : (k : ℕ) → k < length s → slice_index s k ≡ value_at k e

-- The polynomial `r` has the same values as `e` at 2^0, 2^1 and so on, at as many powers of 2 as `r` has coefficients.
pub record HasSameValues (r e : List ℕ) : Type 0 where
  pub each : (k : ℕ) → k < length r → value_at k r ≡ value_at k e
