-- Texts and numbers of a command are read back.
use Rattle.std.proofs.Common.{◌≡◌, ℕ, zero, suc, ◌+◌, ◌/◌, ◌%◌, ◌^◌, ◌<◌, ◌≤◌, refl, ap, ◌∙◌, inl, inr, arith, List, [], ◌∷◌, ◌++◌, true, eqb, leb, get_or, length, Some}
use Rattle.std.{proofs.{lemmas.Fmt.{decimal_digit, decimal_step}, lemmas.Bool.{cases_lt, eq-eqb, le-leb}}, specs.Prelude.decimal}
use Rattle.qr_images.specs.Labels.{after, number_before}
use Rattle.qr_images.specs.Pbm.{leading}
use Rattle.qr_images.specs.Png.{same}
use Rattle.qr_images.proofs.lemmas.laws.{BitmapLemmas.leading-by, FileLemmas.{drop-own, take-own}}

pub same-own : (xs : List ℕ) → same xs xs ≡ true
unfolding same
same-own [] = refl
same-own (x ∷ xs) = let e : eqb x x ≡ true = eq-eqb x x refl in rw (e, same-own xs) refl

-- what comes after a text
pub after-back : (text rest : List ℕ) → after text (text ++ rest) ≡ Some rest
unfolding after
after-back text rest = rw (take-own text rest (length text) refl, drop-own text rest (length text) refl, same-own text) refl

-- The digits of a number begin with a digit
record Begins (n : ℕ) : Type 0 where
  first : ℕ
  others : List ℕ
  are : decimal n ≡ first ∷ others
  low : 48 ≤ first
  high : first ≤ 57

begins-by : (f n : ℕ) → n < f → n < 2 ^ 64 → Begins n
begins-by zero n lt le = absurd (omega arith)
begins-by (suc f) n lt le = elim (cases_lt n 10) [
  | inl l ↦ record { first = 48 + n; others = []; are = decimal_digit n l; low = omega arith; high = omega arith }
  | inr g ↦
      let b = begins-by f (n / 10) (omega arith) (omega arith) in
      record { first = b.first; others = b.others ++ ((48 + n % 10) ∷ []); are = decimal_step n g le ∙ ap (λ l. l ++ ((48 + n % 10) ∷ [])) b.are; low = b.low; high = b.high }
]

-- a number and the text after it
pub number-back : (n : ℕ) (text rest : List ℕ) → n < 2 ^ 64 → leading n (text ++ rest) ≡ (n, text ++ rest) → number_before text (decimal n ++ (text ++ rest)) ≡ Some (n, rest)
unfolding number_before
number-back n text rest l stop =
    let b = begins-by (suc n) n (omega arith) l in
    let all : leading 0 (decimal n ++ (text ++ rest)) ≡ (n, text ++ rest) = leading-by (suc n) n (text ++ rest) (omega arith) l ∙ stop in
    let first : get_or (decimal n ++ (text ++ rest)) 0 0 ≡ b.first = ap (λ d. get_or (d ++ (text ++ rest)) 0 0) b.are in
    let low : leb 48 b.first ≡ true = le-leb _ _ b.low in
    let high : leb b.first 57 ≡ true = le-leb _ _ b.high in
    rw (all, first, low, high, after-back text rest) refl

-- a comma ends a number
pub number-comma : (n : ℕ) (rest : List ℕ) → leading n (44 ∷ rest) ≡ (n, 44 ∷ rest)
unfolding leading
number-comma n rest = refl
