-- Differences of squares.
use Rattle.qr_matrix.specs.{Difference.{differs, difference_count}, Grid.{Grid, colour, is_same}, Sums.{places_passing, sum_below, count_below}}
use Rattle.std.proofs.{Common.{◌≡◌, ℕ, zero, suc, ◌<◌, Bool, true, not, cond, inl, inr, refl, arith}, lemmas.Bool.{cases_lt, Decides.nat_tests}}
use Rattle.std.specs.Prelude.{◌↔◌}

-- a colour is the same as itself
same-self : (b : Bool) → is_same b b ≡ true
same-self b = grind (arith, nat_tests)

-- 1 if the test is passed
abbrev one_if : Bool → ℕ
one_if b = cond b 1 0

-- colours that are not different are equal
same-is : (a b : Bool) → one_if (not (is_same a b)) ≡ 0 → a ≡ b
same-is a b h = grind (arith, nat_tests)

-- if a sum is 0, each term is 0
term-zero : (n : ℕ) (f : ℕ → ℕ) → sum_below n f ≡ 0 → (k : ℕ) → k < n → f k ≡ 0
term-zero zero f e k l = absurd (omega arith)
term-zero (suc n) f e k l = elim (cases_lt k n) [
  | inl m ↦ term-zero n f (omega arith) k m
  | inr m ↦ search arith
]

-- if each term is 0, the sum is 0
pub sum-zero : (n : ℕ) (f : ℕ → ℕ) → ((k : ℕ) → k < n → f k ≡ 0) → sum_below n f ≡ 0
sum-zero zero f e = refl
sum-zero (suc n) f e = let here = e n (omega arith) in let rest = sum-zero n f (λ k l. e k (omega arith)) in omega arith

-- no place differs exactly if all places have one colour in both squares
pub no-difference : (g h : Grid) → (difference_count g h ≡ 0) ↔ ((r c : ℕ) → r < g.side → c < g.side → colour g r c ≡ colour h r c)
unfolding difference_count places_passing
no-difference g h = (
  (λ e r c l m.
      same-is (colour g r c) (colour h r c)
      (term-zero g.side (λ k. cond (differs g h r k) 1 0)
      (term-zero g.side (λ k. count_below g.side (differs g h k)) e r l) c m)),
  (search (arith, sum-zero, same-self)),
)
