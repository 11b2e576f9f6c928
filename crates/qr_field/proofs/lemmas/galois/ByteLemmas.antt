-- Facts that are computed for each number below a bound, and what they say about products of bytes.
use Rattle.std.proofs.Common.{◌≡◌, ℕ, zero, suc, ◌*◌, ◌/◌, ◌%◌, ◌^◌, ◌<◌, Bool, true, ◌&&◌, eqb, refl, subst, inl, inr, arith, bit_xor}
use Rattle.std.{proofs.lemmas.Bool.{cases_lt, and_parts, eqb-true}, specs.Int.Bits.xor_zero_r}
use Rattle.qr_field.specs.Galois.{carryless, product, remainder_of}

-- a test at each number below n
abbrev pub below : ℕ → (ℕ → Bool) → Bool
below zero p = true
below (suc n) p = p n && below n p

-- what passes below n passes at each number below n
pub below-at : (n : ℕ) (p : ℕ → Bool) → below n p ≡ true → (k : ℕ) → k < n → p k ≡ true
below-at zero p h k l = absurd (omega arith)
below-at (suc n) p h k l = elim (cases_lt k n) [
  | inl m ↦ below-at n p (and_parts (p n) _ h).1 k m
  | inr m ↦ subst (λ (z : ℕ). p z ≡ true) (omega arith) (and_parts (p n) _ h).0
]

-- functions that test equal below n are equal at each number below n
pub same-below : (n : ℕ) (f g : ℕ → ℕ) → below n (λ k. eqb (f k) (g k)) ≡ true → (k : ℕ) → k < n → f k ≡ g k
same-below n f g h k l = eqb-true (f k) (g k) (below-at n (λ i. eqb (f i) (g i)) h k l)

-- ---- products

-- products of 1, computed
left-unit : below 256 (λ a. eqb (product 1 a) a) ≡ true
unfolding carryless product remainder_of
left-unit = refl

-- carryless products by 2, computed
doubles : below 256 (λ a. eqb (carryless 8 2 a) (2 * a)) ≡ true
unfolding carryless
doubles = refl

-- products of 2, computed
left-two : below 256 (λ a. eqb (bit_xor (a % 2 ^ 7 * 2) (a / 2 ^ 7 * 29)) (product 2 a)) ≡ true
unfolding carryless product remainder_of
left-two = refl

-- 1 is the unit
pub product-by_one : (a : ℕ) → a < 256 → product a 1 ≡ a
unfolding carryless product remainder_of
product-by_one = search (arith, same-below)

-- 1 is the unit on the other side
pub product-of_one : (a : ℕ) → a < 256 → product 1 a ≡ a
product-of_one = same-below 256 (λ a. product 1 a) (λ a. a) left-unit

-- a product by 0 is 0
pub product-by_zero : (a : ℕ) → a < 256 → product a 0 ≡ 0
unfolding carryless product remainder_of
product-by_zero = search (arith, same-below)

-- a product of 0 is 0
pub product-of_zero : (a : ℕ) → a < 256 → product 0 a ≡ 0
unfolding carryless product remainder_of
product-of_zero = search (arith, same-below)

-- a carryless product by 2 is a shift
pub carryless-two : (a : ℕ) → a < 256 → carryless 8 2 a ≡ 2 * a
carryless-two = same-below 256 (λ a. carryless 8 2 a) (λ a. 2 * a) doubles

-- a product of 2 is a shift by one bit, and where that loses the highest bit, the rest of the prime modulus polynomial
-- is added
pub product-of_two : (a : ℕ) → a < 256 → bit_xor (a % 2 ^ 7 * 2) (a / 2 ^ 7 * 29) ≡ product 2 a
product-of_two = same-below 256 (λ a. bit_xor (a % 2 ^ 7 * 2) (a / 2 ^ 7 * 29)) (λ a. product 2 a) left-two

-- a product of 2 is twice an element that is below 128
pub product-of_two_small : (a : ℕ) → a < 128 → product 2 a ≡ a * 2
product-of_two_small a l =
    let low : a % 2 ^ 7 ≡ a = omega arith in
    let top : a / 2 ^ 7 * 29 ≡ 0 = omega arith in
    cc (product-of_two a (omega arith), low, top, xor_zero_r (a * 2))

-- a product by 16 is 16 times an element that is below 16
pub product-by_sixteen : (a : ℕ) → a < 16 → product a 16 ≡ a * 16
unfolding carryless product remainder_of
product-by_sixteen = search (arith, same-below)
