-- The least number of codewords in which two blocks differ, and how much damage a block may have so that what was read
-- still determines it. A block is its data codewords `d` followed by its `n` error correction codewords `e`. In a list
-- of what was read, `None` stands for a codeword that could not be read.
use Rattle.std.specs.Prelude.{◌≡◌, ℕ, ◌+◌, ◌*◌, ◌≤◌, ◌==◌, if◌then◌else◌, Option, None, Some, List, [], ◌∷◌, ◌++◌, length}
use Rattle.qr_field.specs.Polynomial.{IsCorrection}

-- 1 if two codewords differ, and 0 if they are equal [own]
abbrev pub difference : ℕ → ℕ → ℕ
difference x y = if x == y then 0 else 1

-- The number of indices at which the two lists differ. Each index that only the longer list has is counted too [own]
abbrev pub differences : List ℕ → List ℕ → ℕ
differences [] ys = length ys
differences (x ∷ xs) [] = length (x ∷ xs)
differences (x ∷ xs) (y ∷ ys) = difference x y + differences xs ys

-- Let two blocks of at most 255 codewords have the same number of data codewords, and n error correction codewords
-- each. If their data codewords are not the same, the blocks differ in at least n + 1 codewords [own]
abbrev pub BlocksLieApart : Type 0
BlocksLieApart =
    (n : ℕ) (d e d' e' : List ℕ) → IsCorrection d n e → IsCorrection d' n e' → length d ≡ length d' →
    length d + n ≤ 255 → (d ≡ d' → ⊥) → n + 1 ≤ differences (d ++ e) (d' ++ e')

-- How many codewords could not be read. The list is what was read [own]
abbrev pub erasures : List (Option ℕ) → ℕ
erasures [] = 0
erasures (None ∷ rs) = 1 + erasures rs
erasures (Some x ∷ rs) = erasures rs

-- How many codewords of the block `ys` were read with a wrong value. The first list is what was read. Each index that
-- only the longer of the two lists has is counted too [own]
abbrev pub errors : List (Option ℕ) → List ℕ → ℕ
errors [] ys = length ys
errors (r ∷ rs) [] = length (r ∷ rs)
errors (None ∷ rs) (y ∷ ys) = errors rs ys
errors (Some x ∷ rs) (y ∷ ys) = difference x y + errors rs ys

-- Let a block have at most 255 codewords, of which n are error correction codewords, k could not be read, and at most t
-- were misread. If k + 2t is at most n, then what was read determines the data codewords (ISO/IEC 18004:2015, 7.5.1)
abbrev pub ErasuresAreUnambiguous : Type 0
ErasuresAreUnambiguous =
    (n t : ℕ) (d e d' e' : List ℕ) (read : List (Option ℕ)) → IsCorrection d n e → IsCorrection d' n e' →
    length d ≡ length d' → length d + n ≤ 255 → erasures read + 2 * t ≤ n → errors read (d ++ e) ≤ t →
    errors read (d' ++ e') ≤ t → d ≡ d'
