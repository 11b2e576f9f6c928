-- Polynomials over the field of 256 elements, as lists of coefficients, the one of the highest power first.
use Rattle.std.specs.Prelude.{◌≡◌, ℕ, ◌-◌, ◌<◌, List, [], ◌∷◌, ◌++◌, length, map, bit_xor}
use Prim.Native.Nat.{zero, suc}
use Rattle.std.specs.List.{All}
use lib.ListN.{replicate}
use Rattle.qr_field.specs.Galois.{product}

-- `a` is an element of the field, which is a number below 256 (ISO/IEC 18004:2015, 7.5.2)
abbrev pub IsByte : ℕ → Type 0
IsByte a = a < 256

-- Adds two lists in the field, index by index. If the lists are equally long, the result is the sum of the two
-- polynomials. A shorter list counts as if zeros followed it [own]
abbrev pub plus : List ℕ → List ℕ → List ℕ
plus [] ys = ys
plus (x ∷ xs) [] = x ∷ xs
plus (x ∷ xs) (y ∷ ys) = bit_xor x y ∷ plus xs ys

-- The polynomial 0, written with k coefficients [own]
abbrev pub zeros : ℕ → List ℕ
zeros k = replicate k 0

-- The product of the polynomial `p` and the element `a` of the field (ISO/IEC 18004:2015, 7.5.2)
abbrev pub scaled : ℕ → List ℕ → List ℕ
scaled a p = map (product a) p

-- The product of two polynomials. If their lists have m and n + 1 coefficients, the product has m + n (ISO/IEC
-- 18004:2015, 7.5.2)
abbrev pub times : List ℕ → List ℕ → List ℕ
times [] g = zeros (length g - 1)
times (a ∷ q) g = plus (scaled a g) (0 ∷ times q g)

-- 2 to the power i in the field (ISO/IEC 18004:2015, 7.5.2)
abbrev pub power : ℕ → ℕ
power zero = 1
power (suc i) = product 2 (power i)

-- The generator polynomial for n error correction codewords: the product of x - 2^i for all i from 0 to n - 1 (ISO/IEC
-- 18004:2015, Annex A)
abbrev pub generator_of : ℕ → List ℕ
generator_of zero = 1 ∷ []
generator_of (suc n) = times (generator_of n) (1 ∷ power n ∷ [])

-- The polynomial p is a multiple of g, so that division of p by g leaves no remainder (ISO/IEC 18004:2015, 7.5.2)
pub record IsMultiple (g p : List ℕ) : Type 0 where
  pub quotient : List ℕ
  pub bytes : All IsByte quotient
  pub whole : times quotient g ≡ p

-- The list e has the n error correction codewords of the data codewords d: the polynomial with the coefficients d,
-- followed by e, is a multiple of the generator polynomial (ISO/IEC 18004:2015, 7.5.2)
pub record IsCorrection (d : List ℕ) (n : ℕ) (e : List ℕ) : Type 0 where
  pub count : length e ≡ n
  pub bytes : All IsByte e
  pub multiple : IsMultiple (generator_of n) (d ++ e)

-- Some list e has the n error correction codewords of the data codewords d [own]
abbrev pub HasCorrection : List ℕ → ℕ → Type 0
HasCorrection d n = (e : List ℕ) × IsCorrection d n e
