-- How generator polynomials are computed: a polynomial is multiplied by one factor x - root after the other, where the
-- roots are powers of 2. A list has the coefficients of a polynomial, the one of the highest power first.
use Rattle.std.specs.Prelude.{ℕ, ◌*◌, List, [], ◌∷◌, length, bit_xor}
use Rattle.qr_field.specs.Galois.{product}
use Rattle.qr_field.specs.Polynomial.{power}

-- The product of the polynomial with the coefficients c ∷ q and the polynomial x - root. The first coefficient of this
-- product, which is c, is left out
abbrev pub carried : ℕ → List ℕ → ℕ → List ℕ
carried c [] root = product c root ∷ []
carried c (x ∷ q) root = bit_xor x (product c root) ∷ carried x q root

-- The value of the polynomial p if x is 2 to the power i
abbrev pub value_at : ℕ → List ℕ → ℕ
value_at i [] = 0
value_at i (c ∷ p) = bit_xor (product c (power (i * length p))) (value_at i p)
