-- Polynomials with given roots. The coefficient of the lowest power comes first.
use Rattle.std.specs.Prelude.{◌≡◌, ℕ, Bool, true, false, List, [], ◌∷◌, ◌++◌, length, bit_xor}
use Rattle.qr_field.specs.Galois.{product}
use Rattle.qr_field.specs.Polynomial.{power}
use Rattle.qr_mending.specs.Steps.Sums.{eval}

-- The product of the polynomials `p` and x + `root`, with `carry` added to the coefficient of x^0. The coefficient of
-- the lowest power comes first.
abbrev pub times_root : ℕ → ℕ → List ℕ → List ℕ
times_root root carry [] = carry ∷ []
times_root root carry (a ∷ p) = bit_xor carry (product root a) ∷ times_root root a p

-- The product of the polynomial `p` and a factor x + 2^m for each erased codeword of a block, where m is the location
-- of this codeword. `erased` says for each codeword of the block, in order, whether it is erased.
abbrev pub rooted : List Bool → List ℕ → List ℕ
rooted [] p = p
rooted (true ∷ erased) p = times_root (power (length erased)) 0 (rooted erased p)
rooted (false ∷ erased) p = rooted erased p

-- The quotient of the polynomial `p` and x + `root`, without the remainder. The quotient has one coefficient less than
-- `p`, so a 0 is appended.
abbrev pub quotient : ℕ → List ℕ → List ℕ
quotient root [] = []
quotient root (a ∷ p) = eval root p ∷ quotient root p

-- The leading coefficient of `p`, which is the last of the list, is 1.
pub record HasLeadingOne (p : List ℕ) : Type 0 where
  pub others : List ℕ
  pub whole : p ≡ others ++ 1 ∷ []
