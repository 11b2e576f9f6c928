-- A pattern of six bits, repeated over three words.
use Rattle.std.proofs.lemmas.Bool.{Decides.nat_tests, cases_lt}
use Rattle.std.proofs.Common.{◌≡◌, ℕ, zero, suc, ◌*◌, ◌/◌, ◌%◌, ◌^◌, ◌<◌, Bool, true, ◌&&◌, bit_or, refl, inl, inr, arith}
use Rattle.qr_matrix.{specs.{BitRow.has_bit, Grid.is_same, Sums.all_below}, proofs.lemmas.bit_row.WordLemmas.three}

-- the first of two tests
pub &&-left : (a b : Bool) → (a && b) ≡ true → a ≡ true
&&-left a b h = grind (arith, nat_tests)

-- the second of two tests
pub &&-right : (a b : Bool) → (a && b) ≡ true → b ≡ true
&&-right a b h = grind (arith, nat_tests)

-- the test at one of the numbers
pub below-at : (n : ℕ) (p : ℕ → Bool) → all_below n p ≡ true → (k : ℕ) → k < n → p k ≡ true
below-at zero p h k l = absurd (omega arith)
below-at (suc n) p h k l = elim (cases_lt k n) [
  | inl m ↦ below-at n p (&&-right (p n) _ h) k m
  | inr m ↦ search (arith, &&-left)
]

-- colours that are the same
pub same-same : (a b : Bool) → is_same a b ≡ true → a ≡ b
same-same a b h = grind (arith, nat_tests)

-- the three words of a pattern
abbrev pub repeats : ℕ → ℕ
repeats p =
    let w = p * 0x1041041041041041 % 2 ^ 64 in
    three w (bit_or (w * 2 ^ 2 % 2 ^ 64) (p / 2 ^ 4)) (bit_or (w * 2 ^ 4 % 2 ^ 64) (p / 2 ^ 2))

-- a place has its bit of the pattern
repeats-at : ℕ → ℕ → Bool
repeats-at p c = is_same (has_bit (repeats p) c) (has_bit p (c % 6))

-- in each pattern and at each place, computed
all-repeat : all_below 64 (λ p. all_below 192 (repeats-at p)) ≡ true
unfolding repeats-at has_bit
all-repeat = refl

-- each place has its bit of the pattern
pub repeated-bit : (p c : ℕ) → p < 64 → c < 192 → has_bit (repeats p) c ≡ has_bit p (c % 6)
unfolding repeats-at
repeated-bit p c l m = same-same (has_bit (repeats p) c) (has_bit p (c % 6)) (below-at 192 (repeats-at p) (below-at 64 (λ p. all_below 192 (repeats-at p)) all-repeat p l) c m)
