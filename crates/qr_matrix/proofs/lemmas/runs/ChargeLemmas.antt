-- The modules that cost a point for a run are as many as the points that the runs cost.
use Rattle.std.proofs.Common.{◌≡◌, ℕ, zero, suc, ◌+◌, ◌-◌, ◌*◌, ◌<◌, ◌≤◌, ltb, Bool, true, false, not, ◌&&◌, ◌||◌, cond, refl, ◌∙◌, arith}
use Rattle.std.proofs.lemmas.Bool.Decides.{nat_tests}
use Rattle.qr_matrix.specs.{Sums.{count_below, sum_below}, Steps.{begin_five, is_charged, is_near_five, set_count}}
use Rattle.qr_matrix.specs.Runs.{joins, begins_five, begins_long_run, place_cost}
use Rattle.qr_matrix.proofs.lemmas.{bit_row.{BoolLemmas.and-false, SumLemmas.{sum_below-add, sum_below-scale}}, runs.RowLemmas.{five-past, size-is}}

-- five modules of one colour begin at the module before module c, and at the second module before it
one_before : ℕ → (ℕ → Bool) → ℕ → Bool
one_before s line c = ltb 0 c && begins_five s line (c - 1)

two_before : ℕ → (ℕ → Bool) → ℕ → Bool
two_before s line c = ltb 1 c && begins_five s line (c - 2)

-- the points that are counted at a module, and the points that are still owed for the runs before it
owed : Bool → Bool → ℕ
owed one two = cond one 2 (cond two 1 0)

step : (f one two : Bool) → (two ≡ true → one ≡ false → f ≡ false) → cond f 1 0 + 2 * cond (f && not one) 1 0 + owed one two ≡ cond ((f || one) || two) 1 0 + owed f one
unfolding owed
step f one two h = grind (arith, nat_tests)

-- the points that are owed after module n
owed-next : (s : ℕ) (line : ℕ → Bool) (n m : ℕ) → m ≡ n + 1 → owed (one_before s line m) (two_before s line m) ≡ owed (begins_five s line n) (one_before s line n)
unfolding one_before two_before
owed-next s line n m h = search (arith, nat_tests, owed)

-- the points of module c
point-step : (s : ℕ) (line : ℕ → Bool) (c : ℕ) → cond (begins_five s line c) 1 0 + 2 * cond (begins_long_run s line c) 1 0 + owed (one_before s line c) (two_before s line c)
    ≡ cond (is_charged s line c) 1 0 + owed (begins_five s line c) (one_before s line c)
unfolding is_charged one_before two_before begins_long_run begins_five
point-step s line c = search (arith, step)

-- after the first n modules, the points of the runs and the points of the modules differ by the points that are owed
points-sum : (s : ℕ) (line : ℕ → Bool) (n : ℕ) → sum_below n (λ c. cond (begins_five s line c) 1 0 + 2 * cond (begins_long_run s line c) 1 0) ≡ count_below n (is_charged s line) + owed (one_before s line n) (two_before s line n)
unfolding owed one_before two_before
points-sum s line zero = refl
points-sum s line (suc n) = search (arith, point-step, owed-next, points-sum s line n)

-- the cost of the runs is the number of modules that cost a point
pub charged-cost : (s : ℕ) (line : ℕ → Bool) → count_below s (is_charged s line) ≡ place_cost s line
unfolding place_cost owed one_before two_before
charged-cost s line =
    let b = sum_below-add s (λ c. cond (begins_five s line c) 1 0) (λ c. 2 * cond (begins_long_run s line c) 1 0) in
    let d = sum_below-scale 2 s (λ c. cond (begins_long_run s line c) 1 0) in
    search (arith, owed, two_before, and-false, five-past, points-sum s line s)

-- if j has the joins, and t the places up to two after one where four of them begin, then t has the cost
pub row_cost : (s : ℕ) (line : ℕ → Bool) (j t : ℕ → Bool) → s ≤ 192 → ((c : ℕ) → j c ≡ joins s line c)
    → ((c : ℕ) → c < 192 → t c ≡ is_near_five j c) → set_count t ≡ place_cost s line
unfolding is_charged begins_five
row_cost s line j t l hj ht =
    let five : (c : ℕ) → begin_five j c ≡ begins_five s line c = search arith in
    size-is s t (is_charged s line) l (λ c k. ht c k ∙ (λ i. (five c i || (ltb 0 c && five (c - 1) i)) || (ltb 1 c && five (c - 2) i))) (search (arith, five-past, and-false)) ∙ charged-cost s line
