-- The product of two elements, which `product` computes; that of twice an element is twice the product.
use Rattle.std.proofs.{lemmas.Nat.xor_comm, Common.{◌≡◌, ◌⊎◌, ℕ, ◌*◌, ◌<◌, sym, subst, arith, bit_xor, lit<}}
use Rattle.{std.proofs.lemmas.Nat.xor_of_8, qr_field.specs.Galois.{carryless, prime_modulus, IsProduct, product}}
use Rattle.qr_field.proofs.lemmas.galois.ByteLemmas.{carryless-two, product-by_zero, product-of_zero}
use Rattle.qr_field.proofs.lemmas.galois.BitLemmas.{IsCongruent, congruent-next, congruent-double, congruent-times, congruent-xor, carryless-xor, carryless-double, carryless-lt, remainder-is, remainder-one}

-- `product a b` is a product of a and b
pub product-is : (a b : ℕ) → a < 256 → IsProduct a b (product a b)
unfolding product
product-is a b l = remainder-is 8 prime_modulus 7 (carryless 8 a b) (omega arith) (omega arith) (carryless-lt 8 7 a b l)

-- each product is a byte
pub product-lt : (a b : ℕ) → a < 256 → product a b < 256
product-lt a b l = (product-is a b l).small

-- two elements have at most one product
pub product-one : (a b p q : ℕ) → IsProduct a b p → IsProduct a b q → p ≡ q
product-one a b p q h k = remainder-one 8 prime_modulus (carryless 8 a b) p q h k

-- a number that equals `product a b` is a product of a and b
pub product-definition : (a b p : ℕ) → a < 256 → p ≡ product a b → IsProduct a b p
product-definition a b p l e = subst (λ (t : ℕ). IsProduct a b t) (sym e) (product-is a b l)

-- if one of two elements is 0, their product is 0
pub product-none : (a b : ℕ) → a < 256 → b < 256 → (a ≡ 0) ⊎ (b ≡ 0) → 0 ≡ product a b
product-none a b l m h = grind (arith, product-of_zero, product-by_zero)

-- ---- products of twice an element

-- `IsSame x y` holds if x and y represent the same element
abbrev IsSame : ℕ → ℕ → Type 0
IsSame x y = IsCongruent 8 prime_modulus x y

-- the carryless product of a and b represents their product
product-same : (a b : ℕ) → a < 256 → IsSame (carryless 8 a b) (product a b)
product-same a b l = let p = product-is a b l in record { quotient = p.quotient; whole = p.whole }

-- a byte p that represents the same element as the carryless product of a and b is their product
same-product : (a b p : ℕ) → a < 256 → p < 256 → IsSame (carryless 8 a b) p → product a b ≡ p
same-product a b p l m c =
    product-one a b (product a b) p (product-is a b l)
    (record {
      degree_least = omega arith;
      degree_most = omega arith;
      small = m;
      quotient = c.quotient;
      whole = c.whole;
    })

-- twice an element represents the product of 2 and this element
double-same : (s : ℕ) → s < 256 → IsSame (2 * s) (product 2 s)
double-same s l = subst (λ (t : ℕ). IsSame t (product 2 s)) (carryless-two s l) (product-same 2 s (lit< tt))

-- the product of twice an element and another element is twice the product of the two elements
pub product-double : (a b : ℕ) → a < 256 → product (product 2 a) b ≡ product 2 (product a b)
product-double a b l =
    let twice = product 2 a in
    let c = product a b in
    let small : c < 256 = product-lt a b l in
    let two : IsSame (carryless 8 (2 * a) b) (2 * c) =
    subst (λ (t : ℕ). IsSame t (2 * c)) (sym (carryless-double 8 a b))
    (congruent-double 8 prime_modulus (carryless 8 a b) c (product-same a b l)) in
    let three : IsSame (carryless 8 (2 * a) b) (product 2 c) =
    congruent-next 8 prime_modulus (carryless 8 (2 * a) b) (2 * c) (product 2 c) two (double-same c small) in
    same-product twice b (product 2 c) (product-lt 2 a (lit< tt)) (product-lt 2 c (lit< tt))
    (congruent-next 8 prime_modulus (carryless 8 twice b) (carryless 8 (2 * a) b) (product 2 c) (congruent-times 8 prime_modulus 8 twice (2 * a) b (search (arith, xor_comm, double-same a l))) three)

-- the product of a sum by an element is the sum of the products
pub product-xor : (a b c : ℕ) → a < 256 → b < 256 → bit_xor (product a c) (product b c) ≡ product (bit_xor a b) c
product-xor a b c l m =
    let p = bit_xor (product a c) (product b c) in
    let sum : IsSame (carryless 8 (bit_xor a b) c) p =
    subst (λ (t : ℕ). IsSame t p) (sym (carryless-xor 8 a b c)) (congruent-xor 8 prime_modulus (carryless 8 a c) (carryless 8 b c) (product a c) (product b c) (product-same a c l) (product-same b c m)) in
    sym (same-product (bit_xor a b) c p (xor_of_8 a b l m)
    (xor_of_8 (product a c) (product b c) (product-lt a c l) (product-lt b c m)) sum)
