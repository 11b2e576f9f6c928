-- The values of polynomials at the powers of 2: the value of a product is the product of the values.
use Rattle.qr_field.proofs.lemmas.galois.{BitLemmas.xor-swap, ByteLemmas.{product-by_zero, product-of_zero, product-by_one, product-of_one}}
use Rattle.qr_field.proofs.lemmas.galois.{FieldLemmas.{product-assoc, product-swap, product-by_sum}, PowerLemmas.{power-lt, power-add}}
use Rattle.qr_field.proofs.lemmas.{galois.ProductLemmas.{product-lt, product-xor}, polynomial.ListLemmas.{length-plus, length-times, bytes-scaled}}
use Rattle.qr_field.{proofs.lemmas.polynomial.PolynomialLemmas.{generator-shape, bytes-times, bytes-generator}, specs.Galois.product}
use Rattle.qr_field.specs.{Polynomial.{IsByte, plus, zeros, scaled, times, power, generator_of, IsCorrection}, Steps.Polynomial.value_at}
use Rattle.std.proofs.Common.{◌≡◌, ℕ, zero, suc, ◌+◌, ◌*◌, ◌<◌, List, [], ◌∷◌, ◌++◌, length, refl, sym, ap, ◌∙◌, subst, inl, inr, arith, lit<, bit_xor}
use Rattle.std.proofs.lemmas.{Bool.cases_eq, List.{length-map, Elements.{All-nil, All-cons, All-head, All-tail}}, Nat.xor_of_8}
use Rattle.std.specs.{Int.Bits.{xor_zero_l, xor_zero_r, xor_self}, List.All}

-- ---- values

-- if the coefficients of p are bytes, then the value of p at 2 to the power i is a byte
pub value-lt : (i : ℕ) (p : List ℕ) → All IsByte p → value_at i p < 256
value-lt i [] a = lit< tt
value-lt i (c ∷ p) a = search (arith, xor_of_8, product-lt, All-head, All-tail, value-lt i p (All-tail IsByte c p a))

-- the polynomial 0 ∷ p has the same value as p at 2 to the power i
pub value-zero : (i : ℕ) (p : List ℕ) → value_at i (0 ∷ p) ≡ value_at i p
value-zero i p = search (arith, product-of_zero, power-lt, xor_zero_l)

-- the value of a list of k zeros at 2 to the power i is 0
value-zeros : (i k : ℕ) → value_at i (zeros k) ≡ 0
value-zeros i zero = refl
value-zeros i (suc k) = value-zero i (zeros k) ∙ value-zeros i k

-- the value of a times p at 2 to the power i is a times the value of p at this power
value-scaled : (i a : ℕ) (p : List ℕ) → a < 256 → All IsByte p → value_at i (scaled a p) ≡ product a (value_at i p)
value-scaled i a [] l b = sym (product-by_zero a l)
value-scaled i a (c ∷ p) l b =
    let lp = All-tail IsByte c p b in
    search (arith, product-by_sum, product-lt, value-lt, length-map, product-assoc, value-scaled i a p l lp, power-lt (i * length p), All-head IsByte c p b)

-- the value of `plus xs ys`, which adds from the first coefficients on, if ys has k coefficients more than xs
pub value-plus : (i k : ℕ) (xs ys : List ℕ) → length ys ≡ k + length xs → All IsByte xs → All IsByte ys →
    value_at i (plus xs ys) ≡ bit_xor (product (value_at i xs) (power (i * k))) (value_at i ys)
value-plus i k [] ys e a b = search (arith, product-of_zero, power-lt, xor_zero_l)
value-plus i k (x ∷ xs) [] e a b = absurd (omega (arith, e))
value-plus i k (x ∷ xs) (y ∷ ys) e a b =
    let lx = All-head IsByte x xs a in
    let lxs = All-tail IsByte x xs a in
    let f : length ys ≡ k + length xs = omega (arith, e) in
    let exponent : i * length ys ≡ i * length xs + i * k = ap (λ t. i * t) f ∙ omega arith in
    let front = product-assoc x (power (i * length xs)) (power (i * k)) lx (power-lt (i * length xs)) (power-lt (i * k)) in
    let head = product-xor x y (power (i * length ys)) lx (All-head IsByte y ys b) in
    search (arith, product-xor, product-lt, value-lt, xor-swap, length-plus, value-plus i k xs ys f lxs (All-tail IsByte y ys b), power-add (i * length xs) (i * k))

-- the value of the product of q and a ∷ g at 2 to the power i is the product of the values of q and of a ∷ g at this
-- power
value-times : (i : ℕ) (q : List ℕ) (a : ℕ) (g : List ℕ) → All IsByte q → All IsByte (a ∷ g) →
    value_at i (times q (a ∷ g)) ≡ product (value_at i q) (value_at i (a ∷ g))
value-times i [] a g bq bg = search (arith, value-zeros, product-of_zero, value-lt)
value-times i (b ∷ q) a g bq bg =
    let lb = All-head IsByte b q bq in
    let lq = All-tail IsByte b q bq in
    let v = value_at i (a ∷ g) in
    let place = power (i * length q) in
    let rest = times q (a ∷ g) in
    let bytes : All IsByte (0 ∷ rest) = All-cons IsByte 0 rest (lit< tt) (bytes-times q (a ∷ g) lq) in
    let sum = value-plus i (length q) (scaled b (a ∷ g)) (0 ∷ rest) (omega (arith, length-map (a ∷ g) (product b), length-times q a g)) (bytes-scaled b (a ∷ g) lb) bytes in
    let first = product-swap b v place lb (value-lt i (a ∷ g) bg) (power-lt (i * length q)) in
    let both = product-xor (product b place) (value_at i q) v (product-lt b place lb) (value-lt i q lq) in
    cc (sum, value-scaled i b (a ∷ g) lb bg, value-zero i rest, value-times i q a g lq bg)

-- ---- roots

-- if i is below n, then the value of the generator polynomial of degree n at 2 to the power i is 0
generator-root : (n i : ℕ) → i < n → value_at i (generator_of n) ≡ 0
generator-root zero i l = absurd (omega arith)
generator-root (suc n) i l =
    let factor : List ℕ = 1 ∷ power n ∷ [] in
    let bytes : All IsByte factor =
    All-cons IsByte 1 (power n ∷ []) (lit< tt) (All-cons IsByte (power n) [] (power-lt n) (All-nil IsByte)) in
    let split = value-times i (generator_of n) 1 (power n ∷ []) (bytes-generator n) bytes in
    elim (cases_eq i n) [
      | inl e ↦ grind (arith, product-by_zero, value-lt, bytes-generator, product-of_one, power-lt, product-by_one, xor_zero_r, xor_self)
      | inr o ↦
          cc (generator-root n i (omega (arith, o)), product-of_zero (value_at i factor) (value-lt i factor bytes))
    ]

-- a block of data codewords d and n error correction codewords e consists of bytes
pub block-bytes : (d : List ℕ) (n : ℕ) (e : List ℕ) → IsCorrection d n e → All IsByte (d ++ e)
block-bytes d n e c = search (arith, bytes-times)

-- if i is below n, then the value of a block with n error correction codewords at 2 to the power i is 0
pub block-root : (d : List ℕ) (n : ℕ) (e : List ℕ) → IsCorrection d n e → (i : ℕ) → i < n → value_at i (d ++ e) ≡ 0
block-root d n e c i l =
    let m = c.multiple in
    let q = m.quotient in
    let s = generator-shape n in
    let bytes : All IsByte (1 ∷ s.0) = subst (λ (t : List ℕ). All IsByte t) s.1 (bytes-generator n) in
    cc (generator-root n i l, value-times i q 1 s.0 m.bytes bytes, product-by_zero (value_at i q) (value-lt i q m.bytes), m.whole, s.1)
