use Rattle.std.proofs.Common.{ℕ, zero, suc, List, [], ◌∷◌, bit_xor, refl}
use Rattle.qr_field.{specs.{Galois.{product, remainder_of, carryless}, Polynomial.zeros}, proofs.lemmas.polynomial.ListLemmas.bytes-computed}
use Rattle.qr_field.proofs.laws.longer_blocks_lie_nearer.Goals as goal

-- the sum a of powers of 2 up to the power p, then that with the next power, and so on
abbrev sums : ℕ → ℕ → ℕ → List ℕ
sums zero a p = []
sums (suc k) a p = a ∷ sums k (bit_xor a (product 2 p)) (product 2 p)

-- the quotient of x^255 + 1 by (x - 1)(x - 2)
quotient : List ℕ
quotient = sums 254 1 1

pub returns-clause-one : goal.returns-clause-one
unfolding product remainder_of carryless quotient
returns-clause-one c =
    record {
      count = refl;
      bytes = bytes-computed (0 ∷ 1 ∷ []) refl;
      multiple = record { quotient = quotient; bytes = bytes-computed quotient refl; whole = refl };
    }

pub returns-clause-other : goal.returns-clause-other
unfolding product remainder_of carryless
returns-clause-other c =
    record {
      count = refl;
      bytes = bytes-computed (zeros 2) refl;
      multiple = record { quotient = zeros 254; bytes = bytes-computed (zeros 254) refl; whole = refl };
    }
