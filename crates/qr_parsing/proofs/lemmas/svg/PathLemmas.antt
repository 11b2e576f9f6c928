-- The boxes of a path, one after the other.
use Rattle.std.proofs.Common.{suc, ◌≡◌, ◌≢◌, ◌≤◌, ◌<◌, ◌+◌, ◌∙◌, ◌++◌, ◌⊎◌, ℕ, eqb, not, cond, true, false, List, [], ◌∷◌, length, drop, get_or, decimal, refl, sym, ap, arith, length-append}
use Rattle.std.{proofs.{Math.Seq.drop-append-add, lemmas.{Bool.Decides.nat_tests, Fmt.decimal_nonempty, List.drop-drop}}, specs.List.position_or_len}
use Rattle.qr_parsing.{specs.Steps.Svg.{IsPath, path_in}, proofs.lemmas.svg.NumberLemmas.{box-split, digits-by}}

-- what follows the number of modules of a box, its row and its column
unfoldable pub after_modules : ℕ → List ℕ → List ℕ
after_modules n rest = 49 ∷ 104 ∷ 45 ∷ (decimal n ++ (122 ∷ rest))

unfoldable pub after_row : ℕ → List ℕ → List ℕ
after_row n rest = decimal n ++ (118 ∷ after_modules n rest)

unfoldable pub after_column : ℕ → ℕ → List ℕ → List ℕ
after_column y n rest = decimal y ++ (104 ∷ after_row n rest)

-- each is long enough for a number to be read before it
pub modules-long : (n : ℕ) (rest : List ℕ) → length (after_modules n rest) ≡ 4 + length (decimal n) + length rest
unfolding after_modules
modules-long n rest = omega (arith, length-append (decimal n) (122 ∷ rest))

pub row-long : (n : ℕ) (rest : List ℕ) → n ≤ 999 → 6 ≤ length (after_row n rest)
unfolding after_row
row-long n rest le = search (arith, length-append, modules-long, decimal_nonempty)

pub column-long : (y n : ℕ) (rest : List ℕ) → n ≤ 999 → 6 ≤ length (after_column y n rest)
unfolding after_column
column-long y n rest le = search (arith, length-append, row-long)

-- the path begins with this box, and then comes a path of the rest
pub record FirstBox (numbers bytes : List ℕ) : Type 0 where
  pub x : ℕ
  pub y : ℕ
  pub modules : ℕ
  pub high : ℕ
  pub back : ℕ
  pub more : List ℕ
  pub rest : List ℕ
  pub numbers_are : numbers ≡ x ∷ y ∷ modules ∷ high ∷ back ∷ more
  pub x_in : x ≤ 999
  pub y_in : y ≤ 99999
  pub modules_in : modules ≤ 999
  pub bytes_are : bytes ≡ 77 ∷ (decimal x ++ (32 ∷ after_column y modules rest))
  pub path : IsPath more rest

-- a path that begins with `M` begins with a box
pub first-box : (numbers bytes : List ℕ) → IsPath numbers bytes → 0 < length bytes → get_or bytes 0 0 ≡ 77 → FirstBox numbers bytes
unfolding after_column after_row after_modules
first-box [] [] h some m = absurd (omega arith)
first-box [] (b ∷ bytes) h some m = search arith
first-box (x ∷ y ∷ n ∷ high ∷ back ∷ more) bytes h some m = search (arith, box-split)
first-box (x ∷ []) bytes h some m = absurd h
first-box (x ∷ y ∷ []) bytes h some m = absurd h
first-box (x ∷ y ∷ n ∷ []) bytes h some m = absurd h
first-box (x ∷ y ∷ n ∷ high ∷ []) bytes h some m = absurd h

-- a path that is too short for a box, or does not begin with `M`, has no box
pub no-box : (numbers bytes : List ℕ) → IsPath numbers bytes → (length bytes < 7) ⊎ (get_or bytes 0 0 ≢ 77) → numbers ≡ []
unfolding after_column after_row after_modules
no-box numbers bytes h none = grind (arith, box-split, length-append, column-long, decimal_nonempty)

-- the path of a text begins at its first `M`
pub path-start : (text : List ℕ) → drop (position_or_len (λ byte. eqb byte 77) text) text ≡ path_in text
path-start [] = refl
path-start (b ∷ bytes) =
    elim (eqb b 77) as (λ d. drop (cond (not d) (1 + position_or_len (λ byte. eqb byte 77) bytes) 0) (b ∷ bytes) ≡ cond d (b ∷ bytes) (path_in bytes)) [
      | true ↦ refl
      | false ↦ search (arith, path-start bytes)
    ]

-- the path of a text does not begin at a digit
digit-passed : (d : ℕ) (rest : List ℕ) → d < 10 → path_in ((48 + d) ∷ rest) ≡ path_in rest
digit-passed d rest lt = search (arith, nat_tests)

-- the path of a text does not begin in a number
pub decimal-passed : (n : ℕ) (rest : List ℕ) → n ≤ 99999 → path_in (decimal n ++ rest) ≡ path_in rest
decimal-passed n rest le = digits-by path_in (λ m. path_in) digit-passed (λ m d rest lt le. digit-passed d rest lt) (suc n) n rest (omega arith) le

-- a path is its own part from the first `M` on
pub path-from : (numbers bytes : List ℕ) → IsPath numbers bytes → IsPath numbers (path_in bytes)
path-from numbers bytes h = grind (arith, box-split)

-- what follows the `M` begins one byte after it
pub after-m : (text rest : List ℕ) (at : ℕ) → drop at text ≡ 77 ∷ rest → drop (at + 1) text ≡ rest
after-m text rest at e = sym (drop-drop 1 at text) ∙ ap (drop 1) e

-- what follows the box begins after the digits of its width and four more bytes
pub after-box : (text rest : List ℕ) (at n back : ℕ) → drop at text ≡ after_modules n rest → back ≡ 4 + length (decimal n) → drop (at + back) text ≡ rest
unfolding after_modules
after-box text rest at n back e f =
    let long : back ≡ suc (suc (suc (length (decimal n) + 1))) = omega arith in
    cc (drop-drop back at text, drop-append-add (decimal n) (122 ∷ rest) 1)
