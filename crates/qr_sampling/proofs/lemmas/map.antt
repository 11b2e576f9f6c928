-- Products that fit 64 bits.
use Rattle.std.proofs.Common.{ℕ, zero, suc, ◌*◌, ◌<◌, ◌^◌, ℤ, pos, negsuc, neg_ℤ, ◌*ℤ◌, ◌≤ℤ◌, unsigned_abs, arith, sym, subst}
use Rattle.std.proofs.lemmas.Int.{ints, unsigned_abs-mul}

abs-low : (z : ℤ) (m : ℕ) → unsigned_abs z < m → neg_ℤ (pos m) ≤ℤ z
abs-low (pos a) zero h = omega (arith, ints)
abs-low (pos a) (suc m) h = omega (arith, ints)
abs-low (negsuc a) zero h = omega (arith, ints)
abs-low (negsuc a) (suc m) h = omega (arith, ints)

abs-high : (z : ℤ) (m : ℕ) → unsigned_abs z < m → z ≤ℤ pos m
abs-high (pos a) m h = omega (arith, ints)
abs-high (negsuc a) m h = omega (arith, ints)

small : (a b : ℕ) → a < 2 ^ 46 → b < 2 ^ 14 → a * b < 2 ^ 60
small a b h k = grind arith

product-abs : (a : ℤ) (n : ℕ) → unsigned_abs a < 2 ^ 46 → n < 2 ^ 14 → unsigned_abs (a *ℤ pos n) < 2 ^ 60
product-abs a n h k =
    let P : ℕ → Type 0 = λ m. m < 2 ^ 60 in
    subst P (sym (unsigned_abs-mul a (pos n))) (small (unsigned_abs a) n h k)

-- the product is not too low
pub product-low : (a : ℤ) (n : ℕ) → unsigned_abs a < 2 ^ 46 → n < 2 ^ 14 → neg_ℤ (pos (2 ^ 60)) ≤ℤ (a *ℤ pos n)
product-low a n h k = abs-low (a *ℤ pos n) (2 ^ 60) (product-abs a n h k)

-- the product is not too high
pub product-high : (a : ℤ) (n : ℕ) → unsigned_abs a < 2 ^ 46 → n < 2 ^ 14 → (a *ℤ pos n) ≤ℤ pos (2 ^ 60)
product-high a n h k = abs-high (a *ℤ pos n) (2 ^ 60) (product-abs a n h k)
