-- How the errors `e` of a damaged block are found. Each codeword has an error, which is its difference from the right
-- codeword, and is 0 if the codeword is right. The errors are the coefficients of the error polynomial, that of the
-- highest power first. So the error of the codeword at location m is the coefficient of x^m. A polynomial `p` is listed
-- in the other order: the coefficient of the lowest power comes first.
use Rattle.std.specs.Prelude.{◌≡◌, ℕ, ◌+◌, ◌-◌, ◌<◌, ◌≤◌, ◌==◌, if◌then◌else◌, List, [], ◌∷◌, length, slice_index}
use Rattle.std.specs.List.{All}
use Rattle.qr_field.specs.Galois.{product}
use Rattle.qr_field.specs.{Polynomial.{IsByte, power, zeros}, Distance.{differences}}
use Rattle.arrayvec.specs.ArrayVec.{array_vec_len}
use Rattle.qr_mending.specs.declared.errors.Removal.{Removal}
use Rattle.qr_mending.specs.Steps.{Sums.{eval, HasValues, HasSameValues}, Roots.{HasLeadingOne}}

-- The coefficient of x^m in the polynomial whose coefficients are listed, that of the highest power first. It is 0 if
-- the list has none for x^m.
abbrev pub coefficient : ℕ → List ℕ → ℕ
coefficient m [] = 0
coefficient m (c ∷ e) = if m == length e then c else coefficient m e

-- The coefficients `e`, each multiplied by a value of the polynomial `p`: the coefficient of x^m by the value at 2^m.
-- If `p` has a root for each erased codeword, the errors of these codewords become 0.
abbrev pub weighted : List ℕ → List ℕ → List ℕ
weighted p [] = []
weighted p (c ∷ e) = product c (eval (power (length e)) p) ∷ weighted p e

-- The polynomial `p` locates the errors `e`: if the coefficient of x^m in the error polynomial is not 0, the value of
-- `p` at 2^m is 0. The list `e` has at most 255 items, each of which is a byte.
pub record IsLocated (p e : List ℕ) : Type 0 where
  pub bytes : All IsByte e
  pub most : length e ≤ 255
  pub roots : (m : ℕ) → m < length e → (eval (power m) p ≡ 0 → ⊥) → coefficient m e ≡ 0

-- `e` lists the errors of `n` codewords, one for each. The polynomial `p` locates them. `s` lists the first syndromes
-- of these codewords: item k is the value of the error polynomial at 2^k.
pub record AreErrors (n : ℕ) (p s e : List ℕ) : Type 0 where
  pub count : length e ≡ n
  pub located : IsLocated p e
  pub values : HasValues s e

-- `removal` is a state of Chien's search in which the codewords at the locations below `left` have still to be tried.
-- The search here computes sixteen values of the locator at once from a table. The list `values` was computed from an
-- earlier locator, before some roots were divided out. For each location m from `first` to `left - 1` it has the value
-- of that earlier locator at 2^m. If this value is 0, 2^m is still a root of the locator.
pub record IsRemoval (left : ℕ) (removal : Removal) : Type 0 where
  pub leading : HasLeadingOne removal.locator.items
  pub enough : array_vec_len removal.locator ≤ array_vec_len removal.syndromes + 1
  pub sixteen : left ≤ removal.first + 16
  pub roots : (m : ℕ) → removal.first ≤ m → m < left → slice_index removal.values (m - removal.first) ≡ 0 →
      eval (power m) removal.locator.items ≡ 0

-- `e` lists the errors of the codewords that the search `removal` has still to try, which are at the locations below
-- `left`. If a value of the locator was computed already for one of these locations and is not 0, the error there is 0.
pub record AreLeft (left : ℕ) (e : List ℕ) (removal : Removal) : Type 0 where
  pub errors : AreErrors left removal.locator.items removal.syndromes.items e
  pub none : (m : ℕ) → removal.first ≤ m → m < left → (slice_index removal.values (m - removal.first) ≡ 0 → ⊥) →
      coefficient m e ≡ 0

-- At most `t` of the errors `e` are not 0. Item k of `s` is syndrome k, which is the value of the error polynomial at
-- 2^k.
pub record AreFewErrors (t : ℕ) (s e : List ℕ) : Type 0 where
  pub bytes : All IsByte e
  pub most : length e ≤ 255
  pub few : differences e (zeros (length e)) ≤ t
  pub values : HasValues s e

-- At most `t` of the errors `e` are not 0. If the block with these errors is divided by the generator polynomial, the
-- remainder is `r`. So `r` has the same values as the error polynomial at the first powers of 2.
pub record AreFewErrorsOf (t : ℕ) (r e : List ℕ) : Type 0 where
  pub bytes : All IsByte e
  pub most : length e ≤ 255
  pub few : differences e (zeros (length e)) ≤ t
  pub values : HasSameValues r e
