-- Sums of a table around a module.
use Rattle.qr_sampling.proofs.lemmas.{sums.sum_below-same, tables.entry-is}
use Rattle.qr_sampling.specs.{Levels.{across, around, count_around, first_around}, Sampling.{module_in, placed}, Sums.sum_below, Tables.IsTable, declared.sampling.Sampling.Sampling}
use Rattle.std.proofs.Common.{◌≡◌, ℕ, true, false, cond, sym, ◌+◌, ◌-◌, ◌*◌, ◌<◌, ◌∙◌, List, get_or, ap, arith}

-- the sum of a table around a column is the sum of what the table holds
pub across-is : (side : ℕ) (f : ℕ → ℕ → ℕ) (t : List ℕ) (column row first n s : ℕ) → IsTable side f t → column < side → row < side → first ≡ column - 6
    → n ≡ count_around side column → s ≡ sum_below n (λ i. get_or t (row * side + (first + i)) 0) → s ≡ across side f column row
unfolding across
across-is side f t column row first n s is h l e k g =
    g ∙ (sum_below-same n (λ i. get_or t (row * side + (first + i)) 0) (λ i. f (first_around column + i) row)
    (λ i b. entry-is side f t (first_around column + i) row (row * side + (first + i)) is (omega arith) l (ap (λ z. row * side + (z + i)) e))
    ∙ ap (λ z. sum_below z (λ i. f (first_around column + i) row)) k)

-- the sum of a table of such sums around a row is the sum around a module
pub around-is : (side : ℕ) (f : ℕ → ℕ → ℕ) (t : List ℕ) (column row first n s : ℕ) → IsTable side (across side f) t → column < side → row < side → first ≡ row - 6
    → n ≡ count_around side row → s ≡ sum_below n (λ j. get_or t ((first + j) * side + column) 0) → s ≡ around side f column row
unfolding around
around-is side f t column row first n s is h l e k g =
    g ∙ (sum_below-same n (λ j. get_or t ((first + j) * side + column) 0) (λ j. across side f column (first_around row + j))
    (λ j b. entry-is side (across side f) t column (first_around row + j) ((first + j) * side + column) is h (omega arith) (ap (λ z. (z + j) * side + column) e))
    ∙ ap (λ z. sum_below z (λ j. across side f column (first_around row + j))) k)

-- what a mirrored symbol has in a place
pub placed-mirrored : (how : Sampling) (f : ℕ → ℕ → ℕ) (column row : ℕ) → how.is_mirrored ≡ true → module_in how f row column ≡ placed how f column row
unfolding placed
placed-mirrored how f column row e = sym (ap (λ b. cond b (module_in how f row column) (module_in how f column row)) e)

-- what an upright symbol has in a place
pub placed-upright : (how : Sampling) (f : ℕ → ℕ → ℕ) (column row : ℕ) → how.is_mirrored ≡ false → module_in how f column row ≡ placed how f column row
unfolding placed
placed-upright how f column row e = sym (ap (λ b. cond b (module_in how f row column) (module_in how f column row)) e)
