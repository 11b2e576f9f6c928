-- Bit operations on two rows compute the test of a square of two by two modules.
use Rattle.qr_matrix.{proofs.lemmas.{bit_row.BoolLemmas.and-false, runs.RowLemmas.size-is}, specs.{Penalty.is_square_of_two, Runs.joins, Steps.set_count}}
use Rattle.{qr_matrix.specs.Sums.count_below, std.proofs.{Common.{◌≡◌, ℕ, ◌+◌, ◌<◌, ◌≤◌, ltb, Bool, false, ◌&&◌, arith}, lemmas.Bool.Decides.nat_tests}}

-- a bit that is set where joins in row r, in the next row and in column c begin is set where a square of two begins
pub square-bit : (s : ℕ) (dark : ℕ → ℕ → Bool) (r c : ℕ) (x y a n d : Bool) → y ≡ (a && n) → x ≡ (y && d) → a ≡ joins s (dark r) c → (r + 1 < s → n ≡ joins s (dark (r + 1)) c) → d ≡ (ltb c s && joins s (λ i. dark i c) r) → x ≡ is_square_of_two s dark r c
unfolding is_square_of_two joins
square-bit s dark r c x y a n d ey ex ea en ed = search (arith, nat_tests)

-- no square of two by two modules begins in a column from the side on
square-past : (s : ℕ) (dark : ℕ → ℕ → Bool) (r c : ℕ) → s ≤ c → is_square_of_two s dark r c ≡ false
unfolding is_square_of_two
square-past s dark r c h = search (arith, and-false)

-- a bit row whose bits are the places of row r where squares of two begin has as many set bits as squares begin there
pub squares-row : (s : ℕ) (dark : ℕ → ℕ → Bool) (r : ℕ) (bit : ℕ → Bool) → s ≤ 192 → ((c : ℕ) → bit c ≡ is_square_of_two s dark r c) → set_count bit ≡ count_below s (is_square_of_two s dark r)
squares-row s dark r bit l h = search (arith, size-is, square-past)
