-- The laws of the field of 256 elements: products commute, associate, distribute, and are 0 only if a factor is.
use Rattle.qr_field.proofs.lemmas.galois.{BitLemmas.xor-cancel, ByteLemmas.{product-by_zero, product-of_zero, product-by_one}}
use Rattle.qr_field.proofs.lemmas.galois.{PowerLemmas.{power-lt, power-add, power-round, exponent-of}, ProductLemmas.{product-lt, product-xor}}
use Rattle.{qr_field.specs.{Galois.product, Polynomial.power}, std.proofs.Common.{◌≡◌, ℕ, ◌+◌, ◌-◌, ◌<◌, sym, ap, ◌∙◌, inl, inr, arith, bit_xor}}
use Rattle.std.{proofs.lemmas.{Bool.cases_eq, Nat.xor_of_8}, specs.Int.Bits.xor_zero_r}

-- a product is 0 if its first factor is 0
left-none : (a b : ℕ) → b < 256 → a ≡ 0 → product a b ≡ 0
left-none a b l e = ap (λ t. product t b) e ∙ product-of_zero b l

-- a product is 0 if its second factor is 0
right-none : (a b : ℕ) → a < 256 → b ≡ 0 → product a b ≡ 0
right-none a b l e = ap (product a) e ∙ product-by_zero a l

-- ---- the order of factors

-- the product of two powers does not depend on their order
powers-comm : (i j : ℕ) → product (power i) (power j) ≡ product (power j) (power i)
powers-comm i j =
    sym (power-add i j) ∙ (ap power (omega arith) ∙ power-add j i)

-- the product of two elements does not depend on their order
pub product-comm : (a b : ℕ) → a < 256 → b < 256 → product a b ≡ product b a
product-comm a b l m = elim (cases_eq a 0) [
  | inl e ↦ left-none a b m e ∙ sym (right-none b a m e)
  | inr n ↦ elim (cases_eq b 0) [
    | inl f ↦ right-none a b l f ∙ sym (left-none b a l f)
    | inr o ↦
        let i = exponent-of a n l in
        let j = exponent-of b o m in
        cc (powers-comm i.0 j.0)
  ]
]

-- the product of three powers does not depend on the brackets
powers-assoc : (i j k : ℕ) →
    product (product (power i) (power j)) (power k) ≡ product (power i) (product (power j) (power k))
powers-assoc i j k =
    let e : i + j + k ≡ i + (j + k) = omega arith in
    cc (power-add i j, power-add (i + j) k, power-add i (j + k), power-add j k)

-- the product of three elements does not depend on the brackets
pub product-assoc : (a b c : ℕ) → a < 256 → b < 256 → c < 256 →
    product (product a b) c ≡ product a (product b c)
product-assoc a b c l m h = elim (cases_eq a 0) [
  | inl e ↦ left-none (product a b) c h (left-none a b m e) ∙ sym (left-none a (product b c) (product-lt b c m) e)
  | inr n ↦ elim (cases_eq b 0) [
    | inl f ↦ left-none (product a b) c h (right-none a b l f) ∙ sym (right-none a (product b c) l (left-none b c h f))
    | inr o ↦ elim (cases_eq c 0) [
      | inl g ↦
          right-none (product a b) c (product-lt a b l) g ∙ sym (right-none a (product b c) l (right-none b c m g))
      | inr p ↦
          let i = exponent-of a n l in
          let j = exponent-of b o m in
          let k = exponent-of c p h in
          cc (powers-assoc i.0 j.0 k.0)
    ]
  ]
]

-- the last two of three factors may be exchanged
pub product-swap : (a b c : ℕ) → a < 256 → b < 256 → c < 256 →
    product (product a b) c ≡ product (product a c) b
product-swap a b c l m h = cc (product-assoc a b c l m h, product-comm b c m h, product-assoc a c b l h m)

-- the first two of three factors may be exchanged
pub product-front : (a b c : ℕ) → a < 256 → b < 256 → c < 256 →
    product a (product b c) ≡ product b (product a c)
product-front a b c l m h = cc (product-assoc a b c l m h, product-comm a b l m, product-assoc b a c m l h)

-- ---- sums

-- the product of an element by a sum is the sum of the products
pub product-by_sum : (a b c : ℕ) → a < 256 → b < 256 → c < 256 →
    product a (bit_xor b c) ≡ bit_xor (product a b) (product a c)
product-by_sum a b c l m h =
    product-comm a (bit_xor b c) l (xor_of_8 b c m h)
    ∙ (cc (product-xor b c a m h, product-comm b a m l, product-comm c a h l))

-- ---- factors that are not 0

-- a product by an element that is not 0 is 0 only if the other factor is 0
pub product-factor : (a b : ℕ) → a < 256 → b < 256 → (b ≡ 0 → ⊥) → product a b ≡ 0 → a ≡ 0
product-factor a b l m n e =
    let i = exponent-of b n m in
    let k = i.0 in
    let rest = power (255 - k) in
    let whole : k + (255 - k) ≡ 255 = omega (arith, i.1) in
    sym (product-by_one a l)
    ∙ (ap (product a) (sym (cc (power-add k (255 - k), power-round)))
    ∙ (sym (product-assoc a b rest l m (power-lt (255 - k))) ∙ left-none (product a b) rest (power-lt (255 - k)) e))

-- the sum of two elements is 0 only if they are equal
pub sum-none : (a b : ℕ) → bit_xor a b ≡ 0 → a ≡ b
sum-none a b e = cc (xor_zero_r a, xor-cancel a b)
