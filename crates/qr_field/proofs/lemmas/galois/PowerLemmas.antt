-- Powers of 2 in the field, and the tables of powers and logarithms.
use Rattle.std.proofs.Common.{◌≡◌, ℕ, zero, suc, ◌+◌, ◌-◌, ◌*◌, ◌/◌, ◌%◌, ◌<◌, ◌≤◌, true, eqb, ltb, get_or, refl, sym, ap, ◌∙◌, arith}
use Rattle.qr_field.specs.{declared.galois.TheConstants.{POWERS, LOGARITHMS}, Galois.{carryless, product, remainder_of}, Polynomial.power}
use borrow.Author.Tests.{ltb-true}
use Rattle.qr_field.proofs.lemmas.galois.{ByteLemmas.{below, below-at, same-below, product-of_one}, ProductLemmas.{product-lt, product-double}}

-- ---- powers

-- each power of 2 is a byte
pub power-lt : (i : ℕ) → power i < 256
power-lt i = grind (arith, product-lt)

-- the power of 2 to a sum is the product of the powers to its terms
pub power-add : (i j : ℕ) → power (i + j) ≡ product (power i) (power j)
power-add zero j = ap power (omega arith) ∙ sym (product-of_one (power j) (power-lt j))
power-add (suc i) j =
    let e : suc i + j ≡ suc (i + j) = omega arith in
    ap power e ∙ (ap (product 2) (power-add i j) ∙ sym (product-double (power i) (power j) (power-lt i)))

-- the power of 2 to 255 is 1, which is computed
pub power-round : power 255 ≡ 1
unfolding product remainder_of carryless
power-round = refl

-- the powers of 2 repeat after 255
power-rounds : (q r : ℕ) → power (q * 255 + r) ≡ power r
power-rounds zero r = ap power (omega arith)
power-rounds (suc q) r =
    let rest = q * 255 + r in
    let e : suc q * 255 + r ≡ 255 + rest = omega arith in
    ap power e ∙ (power-add 255 rest ∙ ((ap (λ t. product t (power rest)) power-round ∙ product-of_one (power rest) (power-lt rest)) ∙ power-rounds q r))

-- the power of 2 to k is the power to k modulo 255
pub power-mod : (k : ℕ) → power (k % 255) ≡ power k
power-mod k =
    sym (ap power (omega arith) ∙ power-rounds (k / 255) (k % 255))

-- the product of two powers is the power to the sum of their exponents modulo 255
pub product-of_powers : (a b i j k : ℕ) → i < 255 → power i ≡ a → j < 255 → power j ≡ b →
    k ≡ (i + j) % 255 → power k ≡ product a b
product-of_powers a b i j k li ei lj ej e = cc (power-mod (i + j), power-add i j)

-- ---- the tables

-- each entry of the table of powers is twice the entry before it, which is computed
powers-double : below 254 (λ i. eqb (get_or POWERS (i + 1) 0) (product 2 (get_or POWERS i 0))) ≡ true
unfolding product remainder_of carryless
powers-double = refl

-- entry i of the table of powers is 2 to the power i
pub powers-at : (i : ℕ) → i < 255 → get_or POWERS i 0 ≡ power i
powers-at zero l = refl
powers-at (suc i) l =
    let e : suc i ≡ i + 1 = omega arith in
    ap (λ k. get_or POWERS k 0) e
    ∙ (same-below 254 (λ k. get_or POWERS (k + 1) 0) (λ k. product 2 (get_or POWERS k 0)) powers-double i (omega arith)
    ∙ ap (product 2) (powers-at i (omega arith)))

-- a power of 2 by the table, to be computed with
abbrev pub entry : ℕ → ℕ
entry e = get_or POWERS (e % 255) 0

pub entry-is : (e : ℕ) → entry e ≡ power e
entry-is e = powers-at (e % 255) (omega arith) ∙ power-mod e

-- each entry of the table of logarithms is below 255, which is computed
logarithms-small : below 255 (λ i. ltb (get_or LOGARITHMS i 0) 255) ≡ true
logarithms-small = refl

-- the entry of the table of powers at each logarithm is its element, computed
logarithms-inverse : below 255 (λ i. eqb (get_or POWERS (get_or LOGARITHMS i 0) 0) (i + 1)) ≡ true
logarithms-inverse = refl

-- entry i of the table of logarithms is below 255
pub logarithms-lt : (i : ℕ) → i < 255 → get_or LOGARITHMS i 0 < 255
logarithms-lt i l =
    ltb-true (get_or LOGARITHMS i 0) 255 (below-at 255 (λ k. ltb (get_or LOGARITHMS k 0) 255) logarithms-small i l)

-- an element is the power of 2 to its entry in the table of logarithms
pub logarithms-at : (a i : ℕ) → 1 ≤ a → a < 256 → i ≡ a - 1 → power (get_or LOGARITHMS i 0) ≡ a
logarithms-at a i p l e =
    let k : i < 255 = omega arith in
    sym (powers-at (get_or LOGARITHMS i 0) (logarithms-lt i k))
    ∙ (same-below 255 (λ k. get_or POWERS (get_or LOGARITHMS k 0) 0) (λ k. k + 1) logarithms-inverse i k ∙ (omega arith))

-- the entry of the table of logarithms at each power is its exponent, computed
powers-inverse : below 255 (λ i. eqb (get_or LOGARITHMS (get_or POWERS i 0 - 1) 0) i) ≡ true
powers-inverse = refl

-- an exponent below 255 is the logarithm of its power
logarithm-power : (i : ℕ) → i < 255 → get_or LOGARITHMS (power i - 1) 0 ≡ i
logarithm-power i l =
    ap (λ t. get_or LOGARITHMS (t - 1) 0) (sym (powers-at i l))
    ∙ same-below 255 (λ k. get_or LOGARITHMS (get_or POWERS k 0 - 1) 0) (λ k. k) powers-inverse i l

-- two powers of 2 with different exponents below 255 are different
pub powers-apart : (i j : ℕ) → i < 255 → j < 255 → power i ≡ power j → i ≡ j
powers-apart i j l m e = cc (logarithm-power i l, logarithm-power j m)

-- each element except 0 is a power of 2 whose exponent is below 255
pub exponent-of : (a : ℕ) → (a ≡ 0 → ⊥) → a < 256 → (i : ℕ) × (i < 255) × (power i ≡ a)
exponent-of a n l =
    let p : 1 ≤ a = omega (arith, n) in
    (get_or LOGARITHMS (a - 1) 0, logarithms-lt (a - 1) (omega arith), logarithms-at a (a - 1) p l refl)
