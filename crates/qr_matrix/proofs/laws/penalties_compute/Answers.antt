use Rattle.std.proofs.{Common.{rules, ◌≡◌, ℕ, zero, suc, ◌<◌, Bool, false, ◌∙◌, refl, arith}, lemmas.Bool.Decides.nat_tests}
use Rattle.qr_matrix.specs.Laws.{all_light, chequered, ratio_in_a_column, ratio_in_a_row}
use Rattle.qr_matrix.specs.Penalty.{dark_cost, is_square_of_two, is_window, over_lines, square_count, window_count}
use Rattle.qr_matrix.specs.{Runs.begins_five, Runs.begins_long_run, Runs.joins, Runs.place_cost, Sums.places_passing, Sums.sum_below}
use Rattle.qr_matrix.proofs.lemmas.{difference.sum-zero, runs.RunLemmas.penalty-by-places}
use Rattle.qr_matrix.proofs.laws.penalties_compute.Goals as goal

-- a line that is light but for its first module has no window
no-window : (s : ℕ) (line : ℕ → Bool) → ((i : ℕ) → 0 < i → line i ≡ false) → window_count s line ≡ 0
unfolding window_count is_window
no-window s line h = search (rules, sum-zero)

-- a sum of which only the term for 0 is not 0
first-term : (n : ℕ) (f : ℕ → ℕ) → ((k : ℕ) → 0 < k → f k ≡ 0) → sum_below (suc n) f ≡ f 0
first-term zero f h = omega arith
first-term (suc n) f h = omega (arith, h (suc n) (omega arith), first-term n f h)

-- every row but the first is light
light-row : (k r c : ℕ) → 0 < r → ratio_in_a_row k r c ≡ false
light-row k r c h = grind (arith, nat_tests)

pub returns-clause-light : goal.returns-clause-light
unfolding over_lines place_cost begins_five begins_long_run joins window_count is_window square_count is_square_of_two places_passing dark_cost
returns-clause-light c = penalty-by-places 21 all_light ∙ refl

pub returns-clause-chequers : goal.returns-clause-chequers
unfolding over_lines place_cost begins_five begins_long_run joins window_count is_window square_count is_square_of_two places_passing dark_cost
returns-clause-chequers c = penalty-by-places 21 chequered ∙ refl

pub returns-clause-row : goal.returns-clause-row
unfolding over_lines place_cost begins_five begins_long_run joins window_count is_window square_count is_square_of_two places_passing dark_cost
returns-clause-row c = penalty-by-places 11 (ratio_in_a_row 0) ∙ refl

pub returns-clause-column : goal.returns-clause-column
unfolding over_lines place_cost begins_five begins_long_run joins window_count is_window square_count is_square_of_two places_passing dark_cost
returns-clause-column c = penalty-by-places 11 (ratio_in_a_column 4) ∙ refl

-- row 0 has two windows
two-in-row : window_count 75 (ratio_in_a_row 60 0) ≡ 2
unfolding window_count is_window
two-in-row = refl

pub returns-clause-inside : goal.returns-clause-inside
unfolding over_lines
returns-clause-inside c =
    let dark : ℕ → ℕ → Bool = ratio_in_a_row 60 in
    let rows = first-term 74 (λ r. window_count 75 (dark r)) (λ r l. no-window 75 (dark r) (λ i _. light-row 60 r i l)) in
    omega (arith, rows, sum-zero 75 (λ c. window_count 75 (λ r. dark r c)) (λ c _. no-window 75 (λ r. dark r c) (λ i l. light-row 60 i c l)), two-in-row)
