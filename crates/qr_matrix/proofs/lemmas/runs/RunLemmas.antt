-- The cost of the maximal runs is the cost counted module by module. A joined module has the colour of the next one.
use Rattle.std.proofs.Common.{◌≡◌, ℕ, zero, suc, ◌+◌, ◌-◌, ◌*◌, ◌<◌, ◌≤◌, ◌⊎◌, inl, inr, eqb, ltb, leb, Bool, true, false, not, ◌&&◌, ◌||◌, cond, refl, ap, ◌∙◌, arith}
use Rattle.std.proofs.lemmas.Bool.{cases_Bool, cases_lt, Decides.nat_tests}
use Rattle.qr_matrix.specs.{Grid.is_same, Sums.all_below, Sums.places_passing, Sums.sum_below, Penalty.is_run, Penalty.run_cost}
use Rattle.qr_matrix.specs.{Penalty.{dark_cost, over_lines, penalty_of, square_count, window_count}, Runs.{joins, begins_five, begins_long_run, place_cost}}
use Rattle.qr_matrix.proofs.lemmas.bit_row.SumLemmas.{sum_below-same, sum_below-add, sum_below-scale, sum_below-one}
use Rattle.qr_matrix.proofs.lemmas.{bit_row.BoolLemmas.and-false, runs.RowLemmas.joins-past}

-- ---- tests of all numbers below a bound

-- if each i below k passes the test p, then `all_below k p` is true
all_below-true : (k : ℕ) (p : ℕ → Bool) → ((i : ℕ) → i < k → p i ≡ true) → all_below k p ≡ true
all_below-true zero p h = refl
all_below-true (suc k) p h = ap (λ z. z && all_below k p) (h k (omega arith)) ∙ all_below-true k p (λ i l. h i (omega arith))

-- if some i below k does not pass the test p, then `all_below k p` is false
all_below-false : (k : ℕ) (p : ℕ → Bool) (i : ℕ) → i < k → p i ≡ false → all_below k p ≡ false
all_below-false zero p i h e = absurd (omega arith)
all_below-false (suc k) p i h e = elim (cases_lt i k) [
  | inl l ↦ and-false (p k) (all_below k p) (all_below-false k p i l e)
  | inr l ↦ search arith
]

-- ---- the number of modules after a module that belong to its run

-- the number of modules that module a has ahead, if n modules are left from a on; j is the test of a joined module
unfoldable ahead : (ℕ → Bool) → ℕ → ℕ → ℕ
ahead j zero a = 0
ahead j (suc n) a = cond (j a) (suc (ahead j n (a + 1))) 0

-- two equal colours a and b pass the test `is_same`
same-self : (a b : Bool) → a ≡ b → is_same a b ≡ true
same-self a b e = grind (arith, nat_tests)

-- if module a is joined, then there is a module after it, which has its colour
joins-true : (s : ℕ) (line : ℕ → Bool) (a : ℕ) → joins s line a ≡ true → (a + 1 < s) × (line (a + 1) ≡ line a)
unfolding joins
joins-true s line a h = search arith

-- if module a is joined, then it has one module more ahead than the next
ahead-true : (j : ℕ → Bool) (n a : ℕ) → j a ≡ true → ahead j (suc n) a ≡ suc (ahead j n (a + 1))
unfolding ahead
ahead-true j n a e = ap (λ z. cond z (suc (ahead j n (a + 1))) 0) e

-- if module a has at least k modules ahead, then module a + k is not past the side and has the colour of a
stretch : (s : ℕ) (line : ℕ → Bool) (n a k : ℕ) → a + n ≡ s → 0 < n → k ≤ ahead (joins s line) n a → (a + k < s) × (line (a + k) ≡ line a)
unfolding ahead
stretch s line zero a k e p h = absurd (omega arith)
stretch s line (suc n) a zero e p h = (omega arith, ap line (plain a))
  where
    plain : (a : ℕ) → a + 0 ≡ a
    plain a = omega arith
stretch s line (suc n) a (suc k) e p h = elim (cases_Bool (joins s line a)) [
  | inl t ↦
      let f = ahead-true (joins s line) n a t in
      let u = joins-true s line a t in
      search (arith, stretch s line n (a + 1) k (omega arith) (omega arith) (omega arith))
  | inr t ↦ search (arith, nat_tests)
]

-- the module after those that module a has ahead is past the side or has another colour
stretch-end : (s : ℕ) (line : ℕ → Bool) (n a : ℕ) → a + n ≡ s → 0 < n → (a + suc (ahead (joins s line) n a) ≡ s) ⊎ (is_same (line (a + suc (ahead (joins s line) n a))) (line a) ≡ false)
unfolding joins ahead
stretch-end s line zero a e p = absurd (omega arith)
stretch-end s line (suc n) a e p = elim (cases_Bool (joins s line a)) [
  | inl t ↦
      let u = joins-true s line a t in
      search (arith, stretch-end s line n (a + 1) (omega arith) (omega arith), ahead-true (joins s line) n a t)
  | inr t ↦ search (arith, nat_tests)
]

-- ---- the maximal run from a module on, if a run begins at this module

-- no module before module a belongs to its run
abbrev heads : (ℕ → Bool) → ℕ → Bool
heads line a = eqb a 0 || not (is_same (line (a - 1)) (line a))

-- the number of modules of the run of module a, from module a on
abbrev run_len : ℕ → (ℕ → Bool) → ℕ → ℕ
run_len s line a = suc (ahead (joins s line) (s - a) a)

-- if p, q and r are true, then the conjunction of p, q, h and r is h
four : (p q h r : Bool) → p ≡ true → q ≡ true → r ≡ true → (((p && q) && h) && r) ≡ h
four p q h r a b c = search arith

-- a maximal run of k modules begins at module a just when the run of a begins there and has k modules
is_run-is : (s : ℕ) (line : ℕ → Bool) (a k : ℕ) → a < s → is_run s line a k ≡ (heads line a && eqb k (run_len s line a))
unfolding is_run
is_run-is s line a k l =
    let n : a + (s - a) ≡ s = omega arith in
    let d : 0 < s - a = omega arith in
    let m = ahead (joins s line) (s - a) a in
    let before = stretch s line (s - a) a in
    elim (cases_lt k (suc m)) [
      | inl h ↦ search (arith, nat_tests, same-self, and-false)
      | inr h ↦ elim (cases_lt (suc m) k) [
        | inl g ↦
            let y : eqb k (suc m) ≡ false = grind (arith, nat_tests) in
            elim (stretch-end s line (s - a) a n d) [
              | inl w ↦ search (arith, nat_tests, and-false)
              | inr w ↦ search (arith, all_below-false, and-false)
            ]
        | inr g ↦ search (arith, nat_tests, all_below-true, same-self, stretch-end, four)
      ]
    ]

-- ---- the sum over the lengths

-- the costs of the maximal runs from module a on, over all lengths, are the cost of its run, if this counts, else 0
run_at : (s : ℕ) (line : ℕ → Bool) (a : ℕ) → a < s → sum_below (s + 1) (λ k. cond (leb 5 k && is_run s line a k) (k - 2) 0) ≡ cond (leb 5 (run_len s line a) && heads line a) (run_len s line a - 2) 0
run_at s line a l =
    let m = run_len s line a in
    let u = (stretch s line (s - a) a (ahead (joins s line) (s - a) a) (omega arith) (omega arith) (omega arith)).0 in
    sum_below-same (s + 1) (λ k. cond (leb 5 k && is_run s line a k) (k - 2) 0) (λ k. cond (eqb k m) (cond (leb 5 k && heads line a) (k - 2) 0) 0)
    (search (arith, is_run-is))
    ∙ sum_below-one (s + 1) m (λ k. cond (leb 5 k && heads line a) (k - 2) 0) (omega arith)

-- ---- module by module

-- the number of modules that module a has ahead, in a row or column of s modules
abbrev left : ℕ → (ℕ → Bool) → ℕ → ℕ
left s line a = ahead (joins s line) (s - a) a

-- a joined module has one module more ahead than the next, and any other has 0
left-is : (s : ℕ) (line : ℕ → Bool) (a : ℕ) → left s line a ≡ cond (joins s line a) (suc (left s line (a + 1))) 0
unfolding ahead
left-is s line a = search (arith, joins-past, nat_tests)

-- five modules of one colour begin at module a just when it has at least four modules ahead
five-is : (s : ℕ) (line : ℕ → Bool) (a : ℕ) → begins_five s line a ≡ leb 4 (left s line a)
unfolding begins_five
five-is s line a = search (arith, left-is, nat_tests)

-- no module before module a belongs to its run just when there is no joined module before it
heads-is : (s : ℕ) (line : ℕ → Bool) (a : ℕ) → a < s → heads line a ≡ not (ltb 0 a && joins s line (a - 1))
unfolding joins
heads-is s line a h = search (arith, nat_tests)

-- the cost of the maximal run that begins at module a, or 0 if none begins there or it is shorter than 5 modules
abbrev cost_at : ℕ → (ℕ → Bool) → ℕ → ℕ
cost_at s line a = cond (leb 5 (run_len s line a) && heads line a) (run_len s line a - 2) 0

-- the cost that is counted at module a: 1 if five of one colour begin there, and 2 more if their run does
abbrev place_at : ℕ → (ℕ → Bool) → ℕ → ℕ
place_at s line a = cond (begins_five s line a) 1 0 + 2 * cond (begins_long_run s line a) 1 0

-- the open cost at module a: if its run begins before it, the number of its modules from a on at which five begin
abbrev open_at : ℕ → (ℕ → Bool) → ℕ → ℕ
open_at s line a = cond (ltb 0 a && joins s line (a - 1)) (left s line a - 3) 0

-- the cost counted at a module plus the open cost at the next is the cost of its run plus the open cost at it
balance : (a b : ℕ) (j f : Bool) → a ≡ cond j (suc b) 0 → cond (leb 4 a) 1 0 + 2 * cond (leb 4 a && not f) 1 0 + cond j (b - 3) 0 ≡ cond (leb 5 (suc a) && not f) (suc a - 2) 0 + cond f (a - 3) 0
balance a b j f e = grind (arith, nat_tests)

-- the open cost at module a + 1 is the number of modules that it has ahead, less 3, if module a is joined, else 0
open-next : (s : ℕ) (line : ℕ → Bool) (a : ℕ) → open_at s line (a + 1) ≡ cond (joins s line a) (left s line (a + 1) - 3) 0
open-next s line a = search (arith, nat_tests)

-- the cost counted at the first n modules plus the open cost at n is the cost of the runs that begin at them
places-sum : (s : ℕ) (line : ℕ → Bool) (n : ℕ) → n ≤ s → sum_below n (place_at s line) + open_at s line n ≡ sum_below n (cost_at s line)
unfolding begins_long_run
places-sum s line zero h = refl
places-sum s line (suc n) h = search (arith, balance, left-is, five-is, open-next, heads-is, places-sum s line n (omega arith))

-- runs cost 1 for each module at which five of one colour begin, and 2 more for each at which their run does
pub runs-by-places : (s : ℕ) (line : ℕ → Bool) → run_cost s line ≡ place_cost s line
unfolding run_cost place_cost
runs-by-places s line =
    let a = sum_below-same s (λ a. sum_below (s + 1) (λ k. cond (leb 5 k && is_run s line a k) (k - 2) 0)) (cost_at s line) (λ a h. run_at s line a h) in
    let b = places-sum s line s (omega arith) in
    let d = sum_below-add s (λ a. cond (begins_five s line a) 1 0) (λ a. 2 * cond (begins_long_run s line a) 1 0) in
    let e = sum_below-scale 2 s (λ a. cond (begins_long_run s line a) 1 0) in search (arith, and-false, joins-past, nat_tests)

-- the penalty, with the points for runs counted module by module
pub penalty-by-places : (s : ℕ) (d : ℕ → ℕ → Bool) → penalty_of s d ≡ over_lines s d (place_cost s) + 3 * square_count s d + 40 * over_lines s d (window_count s) + dark_cost s (places_passing s d)
unfolding penalty_of over_lines
penalty-by-places s d =
    let rows = sum_below-same s (λ r. run_cost s (d r)) (λ r. place_cost s (d r)) (λ r _. runs-by-places s (d r)) in
    let columns = sum_below-same s (λ c. run_cost s (λ r. d r c)) (λ c. place_cost s (λ r. d r c)) (λ c _. runs-by-places s (λ r. d r c)) in
    omega arith
