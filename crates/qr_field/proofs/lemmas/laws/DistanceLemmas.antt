-- A polynomial with the value 0 at the first n powers of 2 is 0 or has over n coefficients: how far blocks lie apart.
use Rattle.qr_field.proofs.lemmas.galois.{PowerLemmas.{powers-apart, power-lt, power-add}, BitLemmas.xor-swap, ProductLemmas.{product-lt, product-xor}}
use Rattle.std.proofs.Common.{◌≡◌, ℕ, zero, suc, ◌+◌, ◌-◌, ◌*◌, ◌<◌, ◌≤◌, Option, None, Some, List, [], ◌∷◌, ◌++◌, length, map, take, refl, sym, ap, ◌∙◌, inl, inr, arith, bit_xor, length-append}
use Rattle.std.{proofs.lemmas.{Nat.xor_of_8, Bool.{cases_eq, cases_lt, eq-eqb, ne_eqb}}, specs.{List.All, Int.Bits.{xor_zero_l, xor_zero_r, xor_self}}}
use Rattle.std.proofs.lemmas.List.{length-map, take_at, Elements.{All-nil, All-cons, All-head, All-tail}}
use Rattle.qr_field.specs.{Galois.product, Steps.Polynomial.value_at, Polynomial.{IsByte, plus, power, IsCorrection}}
use Rattle.qr_field.specs.Distance.{difference, differences, erasures, errors}
use Rattle.qr_field.proofs.lemmas.{galois.ByteLemmas.{product-by_zero, product-of_zero, product-by_one}, polynomial.ListLemmas.{length-plus, bytes-plus}}
use Rattle.qr_field.proofs.lemmas.galois.FieldLemmas.{product-assoc, product-front, product-by_sum, product-factor, sum-none}
use Rattle.qr_field.proofs.lemmas.laws.ValueLemmas.{value-lt, value-zero, value-plus, block-bytes, block-root}

-- ---- coefficients that are not 0

-- the number of coefficients of a polynomial that are not 0
abbrev pub weight : List ℕ → ℕ
weight [] = 0
weight (c ∷ p) = difference c 0 + weight p

-- two equal codewords x and y count as 0 differences
pub difference-same : (x y : ℕ) → x ≡ y → difference x y ≡ 0
difference-same x y e = rw (eq-eqb x y e)

-- two different codewords x and y count as 1 difference
pub difference-other : (x y : ℕ) → (x ≡ y → ⊥) → difference x y ≡ 1
difference-other x y n = rw (ne_eqb x y n)

-- if x equals y just when u equals v, then x and y count as many differences as u and v
pub difference-alike : (x y u v : ℕ) → (x ≡ y → u ≡ v) → (u ≡ v → x ≡ y) → difference x y ≡ difference u v
difference-alike x y u v f g = search (arith, difference-same, difference-other)

-- the coefficients of a sum that are not 0 are as many as the positions at which the summands differ
pub weight-plus : (xs ys : List ℕ) → length xs ≡ length ys → weight (plus xs ys) ≡ differences xs ys
weight-plus [] [] e = refl
weight-plus [] (y ∷ ys) e = absurd (omega arith)
weight-plus (x ∷ xs) [] e = absurd (omega arith)
weight-plus (x ∷ xs) (y ∷ ys) e =
    search (arith, xor_self, difference-alike, sum-none, weight-plus xs ys (omega arith))

-- if two lists xs and ys differ at 0 positions, then they are equal
pub differences-none : (xs ys : List ℕ) → differences xs ys ≡ 0 → xs ≡ ys
differences-none [] [] e = refl
differences-none [] (y ∷ ys) e = absurd (omega (arith, e))
differences-none (x ∷ xs) [] e = absurd (omega (arith, e))
differences-none (x ∷ xs) (y ∷ ys) e = search (arith, difference-other, differences-none xs ys (omega (arith, e)))

-- if every coefficient of the polynomial p is 0, then the value of p at 2 to the power i is 0
pub value-none : (i : ℕ) (p : List ℕ) → weight p ≡ 0 → value_at i p ≡ 0
value-none i [] e = refl
value-none i (c ∷ p) e = search (arith, value-zero, difference-other, value-none i p (omega (arith, e)))

-- ---- one coefficient less

-- each coefficient times the sum of 2 to its exponent and 2 to k, by which the coefficient of exponent k becomes 0
abbrev lowered : ℕ → List ℕ → List ℕ
lowered k [] = []
lowered k (c ∷ p) = product c (bit_xor (power (length p)) (power k)) ∷ lowered k p

-- `lowered k p` has as many coefficients as p
length-lowered : (k : ℕ) (p : List ℕ) → length (lowered k p) ≡ length p
length-lowered k [] = refl
length-lowered k (c ∷ p) = ap suc (length-lowered k p)

-- if the coefficients of p are bytes, then the coefficients of `lowered k p` are bytes
bytes-lowered : (k : ℕ) (p : List ℕ) → All IsByte p → All IsByte (lowered k p)
bytes-lowered k [] a = All-nil IsByte
bytes-lowered k (c ∷ p) a =
    search (arith, All-cons, product-lt, All-head, All-tail, bytes-lowered k p (All-tail IsByte c p a))

-- if k is from the length of p to 254, `lowered k p` has as many coefficients that are not 0 as p
weight-lowered : (k : ℕ) (p : List ℕ) → k < 255 → length p ≤ k → All IsByte p → weight (lowered k p) ≡ weight p
weight-lowered k [] h l a = refl
weight-lowered k (c ∷ p) h l a =
    search (arith, All-head, xor_of_8, power-lt, product-of_zero, difference-alike, product-factor, All-tail, powers-apart, sum-none, weight-lowered k p h (omega arith) (All-tail IsByte c p a))

-- the value of `lowered k p` at 2 to i is that of p at 2 to i + 1, plus 2 to k times that of p at 2 to i
value-lowered : (i k : ℕ) (p : List ℕ) → All IsByte p →
    value_at i (lowered k p) ≡ bit_xor (value_at (i + 1) p) (product (power k) (value_at i p))
value-lowered i k [] a = search (arith, xor_zero_l, product-by_zero, power-lt)
value-lowered i k (c ∷ p) a =
    let lc = All-head IsByte c p a in
    let lp = All-tail IsByte c p a in
    let m = length p in
    let lo = power-lt m in
    let lk = power-lt k in
    let place = power (i * m) in
    let li = power-lt (i * m) in
    let exponent : m + i * m ≡ (i + 1) * m = omega arith in
    let first = product-assoc c (power m) place lc lo li in
    let sum = power-add m (i * m) in
    let second = product-assoc c (power k) place lc lk li in
    search (arith, product-front, product-xor, product-lt, product-by_sum, value-lt, xor-swap, length-lowered, value-lowered i k p lp)

-- ---- few coefficients that are not 0

-- a polynomial with at most n coefficients that are not 0, and the value 0 at the first n powers of 2, is 0
pub weight-none : (k n : ℕ) (p : List ℕ) → length p ≤ k → k ≤ 255 → All IsByte p → weight p ≤ n →
    ((i : ℕ) → i < n → value_at i p ≡ 0) → weight p ≡ 0
weight-none k n [] l h a w r = refl
weight-none zero n (c ∷ p) l h a w r = absurd (omega arith)
weight-none (suc k) n (c ∷ p) l h a w r =
    let lc = All-head IsByte c p a in
    let lp = All-tail IsByte c p a in
    let lk : length p ≤ k = omega arith in
    let hk : k ≤ 255 = omega arith in
    elim (cases_eq c 0) [
      | inl e ↦
          let roots : (i : ℕ) → i < n → value_at i p ≡ 0 =
          λ i m. sym (value-zero i p) ∙ (ap (λ t. value_at i (t ∷ p)) (sym e) ∙ r i m) in
          cc (weight-none k n p lk hk lp (omega (arith, w)) roots)
      | inr o ↦
          let one = difference-other c 0 o in
          let some : 1 ≤ n = omega (arith, one, w) in
          let low = lowered (length p) p in
          let same = weight-lowered (length p) p (omega arith) (omega arith) lp in
          let count = length-lowered (length p) p in
          let roots : (i : ℕ) → i < n - 1 → value_at i low ≡ 0 =
          search (arith, power-lt, sum-none, product-front, power-add, value-lowered, xor_self) in
          let tail = weight-none k (n - 1) low (omega (arith, count)) hk (bytes-lowered (length p) p lp) (omega (arith, same, one, w)) roots in
          absurd (o (sym (search (arith, product-by_one, value-none, xor_zero_r)) ∙ r 0 some))
    ]

-- ---- blocks

-- two blocks with n error correction codewords that differ in at most n codewords have the same data codewords
pub near-same : (n : ℕ) (d e d' e' : List ℕ) → IsCorrection d n e → IsCorrection d' n e' →
    length d ≡ length d' → length d + n ≤ 255 → differences (d ++ e) (d' ++ e') ≤ n → d ≡ d'
near-same n d e d' e' c c' s l w =
    let two = length-append d' e' in
    let same : length (d ++ e) ≡ length (d' ++ e') = omega (arith, length-append d e) in
    let sum = plus (d ++ e) (d' ++ e') in
    let bytes = block-bytes d n e c in
    let bytes' = block-bytes d' n e' c' in
    let count = length-plus (d ++ e) (d' ++ e') (omega (arith, same)) in
    let weighs = weight-plus (d ++ e) (d' ++ e') same in
    let roots : (i : ℕ) → i < n → value_at i sum ≡ 0 =
    λ i m. value-plus i 0 (d ++ e) (d' ++ e') (omega (arith, same)) bytes bytes'
    ∙ (ap (λ t. bit_xor (product t (power (i * 0))) (value_at i (d' ++ e'))) (block-root d n e c i m)
    ∙ (ap (λ t. bit_xor t (value_at i (d' ++ e'))) (product-of_zero (power (i * 0)) (power-lt (i * 0)))
    ∙ (ap (bit_xor 0) (block-root d' n e' c' i m) ∙ xor_self 0))) in
    let none = weight-none (length sum) n sum (omega arith) (omega (arith, count, two, s, l, c'.count)) (bytes-plus (d ++ e) (d' ++ e') bytes bytes') (omega (arith, weighs, w)) roots in
    front-same d d' e e' s (differences-none (d ++ e) (d' ++ e') (sym weighs ∙ none))
  where
    front-same : (xs ys us vs : List ℕ) → length xs ≡ length ys → xs ++ us ≡ ys ++ vs → xs ≡ ys
    front-same xs ys us vs s e = sym (take_at xs us (length xs) refl) ∙ (ap (take (length xs)) e ∙ take_at ys vs (length xs) (sym s))

-- two such blocks with different data codewords differ in at least n + 1 codewords
pub apart : (n : ℕ) (d e d' e' : List ℕ) → IsCorrection d n e → IsCorrection d' n e' →
    length d ≡ length d' → length d + n ≤ 255 → (d ≡ d' → ⊥) → n + 1 ≤ differences (d ++ e) (d' ++ e')
apart n d e d' e' c c' s l o = elim (cases_lt n (differences (d ++ e) (d' ++ e'))) [
  | inl m ↦ omega arith
  | inr m ↦ absurd (o (near-same n d e d' e' c c' s l m))
]

-- ---- damage

-- two codewords x and y count as at most 1 difference
pub difference-most : (x y : ℕ) → difference x y ≤ 1
difference-most x y = search (arith, difference-same, difference-other)

-- the length of xs is at most the number of errors of rs against xs plus the length of rs
errors-length : (rs : List (Option ℕ)) (xs : List ℕ) → length xs ≤ errors rs xs + length rs
errors-length [] xs = omega arith
errors-length (r ∷ rs) [] = omega arith
errors-length (None ∷ rs) (x ∷ xs) = omega (arith, (errors-length rs xs))
errors-length (Some z ∷ rs) (x ∷ xs) = omega (arith, (errors-length rs xs))

-- xs and ys differ in at most as many places as a reading has erasures, and errors against xs, and against ys
errors-between : (rs : List (Option ℕ)) (xs ys : List ℕ) →
    differences xs ys ≤ erasures rs + (errors rs xs + errors rs ys)
errors-between [] [] ys = omega arith
errors-between [] (x ∷ xs) [] = omega arith
errors-between [] (x ∷ xs) (y ∷ ys) = search (arith, difference-most, errors-between [] xs ys)
errors-between (r ∷ rs) [] ys = omega (arith, (errors-length (r ∷ rs) ys))
errors-between (None ∷ rs) (x ∷ xs) [] = omega (arith, (errors-length rs xs))
errors-between (Some z ∷ rs) (x ∷ xs) [] = omega (arith, (errors-length rs xs))
errors-between (None ∷ rs) (x ∷ xs) (y ∷ ys) = search (arith, difference-most, errors-between rs xs ys)
errors-between (Some z ∷ rs) (x ∷ xs) (y ∷ ys) = grind (arith, difference-same, difference-other, errors-between rs xs ys)

-- a reading with k erasures and at most t errors against each of two blocks, where k + 2 * t is at most n, tells one
pub unambiguous-known : (n t : ℕ) (d e d' e' : List ℕ) (read : List (Option ℕ)) → IsCorrection d n e →
    IsCorrection d' n e' → length d ≡ length d' → length d + n ≤ 255 → erasures read + 2 * t ≤ n →
    errors read (d ++ e) ≤ t → errors read (d' ++ e') ≤ t → d ≡ d'
unambiguous-known n t d e d' e' read c c' s l h a b = near-same n d e d' e' c c' s l (omega (arith, errors-between read (d ++ e) (d' ++ e'), h, a, b))

-- a list xs of which every codeword was read has 0 erasures
pub erasures-read : (xs : List ℕ) → erasures (map (λ x. Some x) xs) ≡ 0
erasures-read [] = refl
erasures-read (x ∷ xs) = erasures-read xs

-- if every codeword of xs was read, then the number of errors of xs against ys is the number of differences of xs and
-- ys
pub errors-read : (xs ys : List ℕ) → errors (map (λ x. Some x) xs) ys ≡ differences xs ys
errors-read [] ys = refl
errors-read (x ∷ xs) [] = ap suc (length-map xs (λ x. Some x))
errors-read (x ∷ xs) (y ∷ ys) = ap (λ z. difference x y + z) (errors-read xs ys)
