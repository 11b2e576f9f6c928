-- Polynomials with the leading coefficient 1, and the search for the error locator polynomial. The syndromes from index
-- j on stand for equation j. To test whether a polynomial solves it, for each k the coefficient of x^k is multiplied by
-- the syndrome at index j + k; the products have to add up to 0.
use Rattle.std.specs.Prelude.{◌≡◌, ℕ, ◌+◌, ◌*◌, ◌<◌, ◌≤◌, List, take, drop, length, slice_index}
use Rattle.std.specs.List.{All}
use Rattle.qr_field.specs.Polynomial.{IsByte}
use Rattle.qr_mending.specs.declared.polynomial.Polynomial.{Polynomial}
use Rattle.qr_mending.specs.declared.locator.Search.{Search}
use Rattle.qr_mending.specs.declared.locator.Progress.{Progress}
use Rattle.qr_mending.specs.Steps.Sums.{dot_of, HasValues}

-- The coefficients of `p`, that of the lowest power first.
abbrev pub all_of : Polynomial → List ℕ
all_of p = take (p.degree + 1) p.terms

-- The leading coefficient of `p` is 1.
abbrev pub IsMonic : Polynomial → Type 0
IsMonic p = slice_index p.terms p.degree ≡ 1

-- The sum of products of the coefficients of `p` and the syndromes `s`: the coefficient of x^k is multiplied by item k,
-- counted from 0. If `s` lists the syndromes from index j on, the sum is 0 exactly if `p` solves equation j (see the
-- top of this file).
abbrev pub discrepancy_of : Polynomial → List ℕ → ℕ
discrepancy_of p s = dot_of (all_of p) s

-- `p` has the leading coefficient 1, and solves each equation for which the first `i` of the syndromes `s` are enough.
pub record IsBest (i : ℕ) (s : List ℕ) (p : Polynomial) : Type 0 where
  pub bytes : All IsByte (all_of p)
  pub count : length (all_of p) ≡ p.degree + 1
  pub monic : IsMonic p
  pub solved : (j : ℕ) → j + p.degree < i → discrepancy_of p (drop j s) ≡ 0

-- The search for the error locator polynomial after the first `i` of the syndromes `s`. The polynomial `best` solves
-- all equations for which these are enough. If `best` does not solve the next equation, a multiple of `earlier` will be
-- added to `best`. Let d be the degree of `best`. `earlier` solves each equation whose index is below d - 1, but not
-- the equation with the index d - 1: its sum of products there is `earlier_discrepancy`, which is not 0.
pub record IsSearch (i : ℕ) (s : List ℕ) (search : Search) : Type 0 where
  pub best : IsBest i s search.best
  pub bytes : All IsByte (all_of search.earlier)
  pub some : 1 ≤ search.earlier_discrepancy
  pub degrees : search.best.degree + search.earlier.degree ≤ i
  pub before : (j : ℕ) → j + 1 < search.best.degree → discrepancy_of search.earlier (drop j s) ≡ 0
  pub last : (j : ℕ) → j + 1 ≡ search.best.degree → discrepancy_of search.earlier (drop j s) ≡ search.earlier_discrepancy

-- `progress` has the first syndromes of a block, and the search for its error locator polynomial. Division of the block
-- by the generator polynomial leaves the remainder `r`. The search has taken in the first `taken` of the syndromes, and
-- `taken` is at most 2`t`. The degree of the polynomial `best` that it has found is at most `t`.
pub record IsProgress (t : ℕ) (r : List ℕ) (progress : Progress) : Type 0 where
  pub values : HasValues progress.syndromes.items r
  pub count : length progress.syndromes.items ≤ length r
  pub search : IsSearch progress.taken progress.syndromes.items progress.search
  pub degree : progress.search.best.degree ≤ t
  pub within : progress.taken ≤ length progress.syndromes.items
  pub most : progress.taken ≤ 2 * t
