-- How a damaged block, some of whose codewords may be erased, is mended. In the list of what was read, `None` stands
-- for an erased codeword.
use Rattle.std.specs.Prelude.{◌≡◌, ℕ, ◌+◌, ◌*◌, ◌≤◌, Bool, true, false, Option, None, Some, List, [], ◌∷◌, length}
use Rattle.qr_field.specs.Distance.{difference, erasures, errors}
use Rattle.qr_mending.specs.Block.{IsBlock}
use Rattle.qr_mending.specs.declared.erasures.Changes.{Changes}

-- The given codewords as they were read: `None` where `erased` is true at the same index, and otherwise the codeword.
-- If the list `erased` is shorter, the codewords past its end were read [own]
abbrev pub read_of : List ℕ → List Bool → List (Option ℕ)
read_of [] erased = []
read_of (x ∷ xs) [] = Some x ∷ read_of xs []
read_of (x ∷ xs) (true ∷ erased) = None ∷ read_of xs erased
read_of (x ∷ xs) (false ∷ erased) = Some x ∷ read_of xs erased

-- `read`, which is what was read of a block, is mended to the block `mended` by at most `spare` of its `n` error
-- correction codewords. An erased codeword uses up one of them. A misread codeword uses up two, since its index is not
-- known (ISO/IEC 18004:2015, 7.5.1)
pub record IsMendedWithErasures (n spare : ℕ) (read : List (Option ℕ)) (mended : List ℕ) : Type 0 where
  pub block : IsBlock n mended
  pub long : length mended ≡ length read
  pub few : erasures read + 2 * errors read mended ≤ spare

-- How many erased codewords have another value in the block `ys` than in `xs`, the values of all codewords as they were
-- read. The first list is what was read. An index at which one of the lists has no item is not counted [own]
abbrev pub erased_errors : List (Option ℕ) → List ℕ → List ℕ → ℕ
erased_errors [] xs ys = 0
erased_errors (r ∷ rs) [] ys = 0
erased_errors (r ∷ rs) (x ∷ xs) [] = 0
erased_errors (None ∷ rs) (x ∷ xs) (y ∷ ys) = difference x y + erased_errors rs xs ys
erased_errors (Some z ∷ rs) (x ∷ xs) (y ∷ ys) = erased_errors rs xs ys

-- The changes with which `read`, which is what was read of a block, becomes the block `mended`. `values` are the values
-- of all codewords as they were read, also of the erased ones [own]
abbrev pub changes_of : List (Option ℕ) → List ℕ → List ℕ → Changes
changes_of read values mended =
    record { misread = errors read mended; erased = erasures read; erased_wrong = erased_errors read values mended }
