-- The first bit of a bit row that is set.
use Rattle.std.proofs.Common.{◌≡◌, ℕ, zero, suc, ◌+◌, ◌^◌, ◌<◌, ◌≤◌, Bool, true, false, eqb, cond, [], ◌∷◌, refl, inl, inr, w64, arith}
use Rattle.std.proofs.lemmas.{Bool.{cases_lt}, Nat.Bits.{bit_at-trailing_zeros, bit_at-zero}}
use Rattle.{std.specs.Int.trailing_zeros, qr_matrix.specs.{BitRow.has_bit, Steps.columns_passing}}
use Rattle.qr_matrix.proofs.lemmas.bit_row.{WordLemmas.three, PlaceLemmas.{has_bit-low, has_bit-middle, has_bit-high}}

-- a word that is 0 has no bit set
none : (a c : ℕ) → a ≡ 0 → has_bit a c ≡ false
unfolding has_bit
none a c e = cc (bit_at-zero c)

-- t is the first bit of a bit row that is set
pub record IsFirst (line : ℕ → Bool) (t : ℕ) : Type 0 where
  pub before : (c : ℕ) → c < t → line c ≡ false
  pub here : line t ≡ true

-- the first bit of a word that is set
word-first : (a : ℕ) → 0 < a → a < 2 ^ 64 → (trailing_zeros w64 a < 64) × IsFirst (has_bit a) (trailing_zeros w64 a)
unfolding has_bit
word-first a p l = search (arith, bit_at-trailing_zeros w64 a p l)

-- the first set bit is in the low word
pub first-low : (a b d t : ℕ) → 0 < a → a < 2 ^ 64 → t ≡ trailing_zeros w64 a → (t < 64) × IsFirst (has_bit (three a b d)) t
first-low a b d t p l e = search (arith, word-first, has_bit-low)

-- the first set bit is in the middle word
pub first-middle : (a b d t : ℕ) → a ≡ 0 → 0 < b → b < 2 ^ 64 → t ≡ 64 + trailing_zeros w64 b → (t < 128) × IsFirst (has_bit (three a b d)) t
first-middle a b d t z p l e = search (arith, word-first, has_bit-low, none, has_bit-middle)

-- the first set bit is in the high word
pub first-high : (a b d t : ℕ) → a ≡ 0 → b ≡ 0 → 0 < d → d < 2 ^ 64 → t ≡ 128 + trailing_zeros w64 d → (t < 192) × IsFirst (has_bit (three a b d)) t
first-high a b d t z y p l e = search (arith, word-first, has_bit-low, none, has_bit-middle, has_bit-high)

-- no bit is set
pub first-none : (a b d c : ℕ) → a ≡ 0 → b ≡ 0 → d ≡ 0 → has_bit (three a b d) c ≡ false
first-none a b d c z y x = none (three a b d) c (omega arith)

-- ---- the columns that pass a test, one after the other

-- tests that agree from column k to before k + n keep the same columns
passing-same : (p q : ℕ → Bool) (k n : ℕ) → ((c : ℕ) → k ≤ c → p c ≡ q c) → columns_passing p k n ≡ columns_passing q k n
unfolding columns_passing
passing-same p q k zero e = refl
passing-same p q k (suc n) e =
    let s = passing-same p q (k + 1) n (λ c l. e c (omega arith)) in
    λ i. cond (e k (omega arith) i) (k ∷ s i) (s i)

-- a test that no column passes keeps none
pub passing-none : (p : ℕ → Bool) (k n : ℕ) → ((c : ℕ) → c < k + n → p c ≡ false) → columns_passing p k n ≡ []
unfolding columns_passing
passing-none p k zero none = refl
passing-none p k (suc n) none = rw (none k (omega arith)) (passing-none p (k + 1) n (λ c l. none c (omega arith)))

-- if t is the first column that passes p, and q fails there alone of these, then they are t and those that pass q
pub passing-first : (p q : ℕ → Bool) (t k n : ℕ) → k ≤ t → t < k + n → ((c : ℕ) → c < t → p c ≡ false) → p t ≡ true
    → ((c : ℕ) → q c ≡ cond (eqb c t) false (p c)) → columns_passing p k n ≡ t ∷ columns_passing q k n
unfolding columns_passing
passing-first p q t k zero l m before here is = absurd (omega arith)
passing-first p q t k (suc n) l m before here is = elim (cases_lt k t) [
  | inl s ↦ search (arith, passing-first p q t (k + 1) n (omega arith) (omega arith) before here is)
  | inr s ↦ search (arith, passing-same)
]
