-- Sums over the numbers below a bound.
use Rattle.std.proofs.Common.{◌≡◌, ℕ, zero, suc, ◌+◌, ◌-◌, ◌*◌, ◌<◌, ◌≤◌, Bool, false, cond, eqb, inl, inr, refl, sym, ap, ◌∙◌, arith}
use Rattle.{std.proofs.lemmas.Bool.{cases_lt, Decides.nat_tests}, qr_matrix.specs.Sums.{sum_below, count_below}}

-- if f k equals g k for each k below n, then f and g have the same sum below n
pub sum_below-same : (n : ℕ) (f g : ℕ → ℕ) → ((k : ℕ) → k < n → f k ≡ g k) → sum_below n f ≡ sum_below n g
sum_below-same zero f g e = refl
sum_below-same (suc n) f g e = let a = e n (omega arith) in let b = sum_below-same n f g (λ k l. e k (omega arith)) in omega arith

-- the sum of 0 over the numbers below n is 0
sum_below-zero : (n : ℕ) → sum_below n (λ k. 0) ≡ 0
sum_below-zero zero = refl
sum_below-zero (suc n) = let a = sum_below-zero n in omega arith

-- the sum of f k + g k below n is the sum of f plus the sum of g
pub sum_below-add : (n : ℕ) (f g : ℕ → ℕ) → sum_below n (λ k. f k + g k) ≡ sum_below n f + sum_below n g
sum_below-add zero f g = refl
sum_below-add (suc n) f g = let a = sum_below-add n f g in omega arith

-- the sum of m * f k below n is m times the sum of f
pub sum_below-scale : (m n : ℕ) (f : ℕ → ℕ) → sum_below n (λ k. m * f k) ≡ m * sum_below n f
sum_below-scale m zero f = omega arith
sum_below-scale m (suc n) f = let a = sum_below-scale m n f in omega arith

-- if m is below n, then the sum of f k below n, in which each term but that of m is replaced by 0, is f m
pub sum_below-one : (n m : ℕ) (f : ℕ → ℕ) → m < n → sum_below n (λ k. cond (eqb k m) (f k) 0) ≡ f m
sum_below-one zero m f h = absurd (omega arith)
sum_below-one (suc n) m f h = elim (cases_lt m n) [
  | inl l ↦ search (arith, nat_tests, sum_below-one n m f l)
  | inr l ↦
      let b = sum_below-same n (λ k. cond (eqb k m) (f k) 0) (λ k. 0) (λ k i. let e : eqb k m ≡ false = grind (arith, nat_tests) in ap (λ z. cond z (f k) 0) e) in
      search (arith, sum_below-zero)
]

-- the sum of f r c over the rows r below n and the columns c below m is the same column by column as row by row
pub sum_below-swap : (n m : ℕ) (f : ℕ → ℕ → ℕ) → sum_below n (λ r. sum_below m (λ c. f r c)) ≡ sum_below m (λ c. sum_below n (λ r. f r c))
sum_below-swap zero m f = sym (sum_below-zero m)
sum_below-swap (suc n) m f = let a = sum_below-swap n m f in let b = sum_below-add m (f n) (λ c. sum_below n (λ r. f r c)) in omega arith

-- if f k is 0 for each k from s on, then the sum of f below d + s is the sum of f below s
pub sum_below-cut : (s d : ℕ) (f : ℕ → ℕ) → ((k : ℕ) → s ≤ k → f k ≡ 0) → sum_below (d + s) f ≡ sum_below s f
sum_below-cut s zero f e = ap (λ z. sum_below z f) (plain s)
  where
    plain : (s : ℕ) → 0 + s ≡ s
    plain s = omega arith
sum_below-cut s (suc d) f e = ap (λ z. sum_below z f) (step s d) ∙ (let a = sum_below-cut s d f e in omega arith)
  where
    step : (s d : ℕ) → suc d + s ≡ suc (d + s)
    step s d = omega arith

-- if the tests p and q agree on each k below n, then as many numbers below n pass p as pass q
pub count_below-same : (n : ℕ) (p q : ℕ → Bool) → ((k : ℕ) → k < n → p k ≡ q k) → count_below n p ≡ count_below n q
count_below-same n p q e = search (arith, sum_below-same)

-- if p and q agree below n, and q fails from s on, then as many numbers below n pass p as numbers below s pass q
pub count_below-cut : (n s : ℕ) (p q : ℕ → Bool) → s ≤ n → ((c : ℕ) → c < n → p c ≡ q c) → ((c : ℕ) → s ≤ c → q c ≡ false) → count_below n p ≡ count_below s q
count_below-cut n s p q l e f =
    let d : n - s + s ≡ n = omega arith in
    count_below-same n p q e ∙ (search (arith, sum_below-cut))

-- if a is the sum of f below n, b is f n and d is a + b, then d is the sum of f below n + 1
pub sum_below-more : (n a b d : ℕ) (f : ℕ → ℕ) → a ≡ sum_below n f → b ≡ f n → d ≡ a + b → d ≡ sum_below (n + 1) f
sum_below-more n a b d f e g h = ends (n + 1) (omega arith)
  where
    ends : (m : ℕ) → m ≡ suc n → d ≡ sum_below m f
    ends m k = omega (arith, ap (λ z. sum_below z f) k)
