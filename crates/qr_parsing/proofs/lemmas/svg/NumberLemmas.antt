-- The numbers of texts, and which places are in boxes.
use Rattle.std.proofs.Common.{◌≡◌, ◌≤◌, ◌<◌, ◌+◌, ◌-◌, ◌*◌, ◌/◌, ◌%◌, ◌++◌, ◌||◌, ℕ, zero, suc, ◌^◌, Bool, true, false, List, [], ◌∷◌, length, drop, get_or, refl, ap, arith, inl, inr, add-one, append_assoc, drop-cons, length-append}
use Rattle.std.proofs.Math.{Bool.or_assoc, Nat.pow-suc}
use Rattle.std.{proofs.{lemmas.Fmt.{decimal_digit, decimal_step}, lemmas.Bool.cases_lt, lemmas.Bool.Decides.nat_tests}, specs.Prelude.{codes, decimal}}
use Rattle.qr_drawing.{specs.{Raster.texts_below, Svg.{box_path, numbered}}, proofs.Facts.no-texts}
use Rattle.qr_parsing.{specs.Steps.Svg.{is_digit, is_in_boxes, leading, numbers_after}, proofs.lemmas.text.PlaceLemmas.texts-first}

-- what reads the first digit of a number, and each later digit, reads the digits of the number as the number
pub digits-by : {A : Type 0} (first : List ℕ → A) (next : ℕ → List ℕ → A)
    → ((d : ℕ) (rest : List ℕ) → d < 10 → first ((48 + d) ∷ rest) ≡ next (0 * 10 + d) rest)
    → ((m d : ℕ) (rest : List ℕ) → d < 10 → m * 10 + d ≤ 99999 → next m ((48 + d) ∷ rest) ≡ next (m * 10 + d) rest)
    → (f n : ℕ) (rest : List ℕ) → n < f → n ≤ 99999 → first (decimal n ++ rest) ≡ next n rest
digits-by first next begin step zero n rest lt le = absurd (omega arith)
digits-by first next begin step (suc f) n rest lt le = elim (cases_lt n 10) [
  | inl l ↦ search (arith, decimal_digit)
  | inr g ↦ search (arith, decimal_step, append_assoc, digits-by first next begin step f (n / 10) ((48 + n % 10) ∷ rest) (omega arith) (omega arith))
]

-- one more digit is read as ten times the number before it, plus the digit
digit-read : (m d : ℕ) (inside : Bool) (rest : List ℕ) → d < 10 → m * 10 + d ≤ 99999 → numbers_after m inside ((48 + d) ∷ rest) ≡ numbers_after (m * 10 + d) true rest
unfolding numbers_after
digit-read m d inside rest lt le = search (arith, nat_tests)

-- a number is read whole if a byte that is no digit comes after it
pub number-read : (n b : ℕ) (rest : List ℕ) → n ≤ 99999 → is_digit b ≡ false → numbers_after 0 false (decimal n ++ (b ∷ rest)) ≡ n ∷ numbers_after 0 false rest
unfolding numbers_after
number-read n b rest le e =
    search (arith, digits-by (numbers_after 0 false) (λ m. numbers_after m true) (λ d rest lt. digit-read 0 d false rest lt (omega arith)) (λ m d rest lt le. digit-read m d true rest lt le) (suc n) n (b ∷ rest) (omega arith) le)

-- the five numbers of a box
unfoldable pub box_numbers : ℕ → ℕ → ℕ → List ℕ
box_numbers x y n = x ∷ y ∷ n ∷ 1 ∷ n ∷ []

-- a box consists of these letters and numbers, and what follows comes after them
pub box-split : (x y n : ℕ) (rest : List ℕ) → box_path x y n ++ rest
    ≡ 77 ∷ (decimal x ++ (32 ∷ (decimal y ++ (104 ∷ (decimal n ++ (118 ∷ 49 ∷ 104 ∷ 45 ∷ (decimal n ++ (122 ∷ rest))))))))
unfolding box_path numbered
box-split x y n rest = regroup (codes "M") (decimal x) (codes " ") (decimal y) (codes "h") (decimal n) (codes "v1h-") (decimal n) (codes "z") rest
  where
    regroup : (a b c d e f g h i rest : List ℕ) → ((a ++ b) ++ (c ++ d) ++ (e ++ f) ++ (g ++ h) ++ i) ++ rest ≡ a ++ (b ++ (c ++ (d ++ (e ++ (f ++ (g ++ (h ++ (i ++ rest))))))))
    regroup a b c d e f g h i rest = simp append_assoc

-- the numbers that are read from a box are its five numbers
pub box-read : (x y n : ℕ) (rest : List ℕ) → x ≤ 99999 → y ≤ 99999 → n ≤ 99999
    → numbers_after 0 false (box_path x y n ++ rest) ≡ box_numbers x y n ++ numbers_after 0 false rest
unfolding box_numbers numbers_after
box-read x y n rest a b c = search (arith, box-split, number-read)

-- ---- numbers and boxes that a text begins with

-- one more digit at the beginning is read as ten times the number before it, plus the digit
leading-digit : (m d : ℕ) (rest : List ℕ) → d < 10 → leading m ((48 + d) ∷ rest) ≡ leading (m * 10 + d) rest
unfolding leading
leading-digit m d rest lt = search (arith, nat_tests)

-- a number at the beginning is read whole if a byte that is no digit comes after it
pub leading-read : (n b : ℕ) (rest : List ℕ) → n ≤ 99999 → is_digit b ≡ false → leading 0 (decimal n ++ (b ∷ rest)) ≡ (n, rest)
unfolding leading
leading-read n b rest le e =
    search (arith, digits-by (leading 0) leading (λ d rest lt. leading-digit 0 d rest lt) (λ m d rest lt le. leading-digit m d rest lt) (suc n) n (b ∷ rest) (omega arith) le)

-- a digit is a byte that is at most 9 more than `0`
pub digit-by : (b : ℕ) → b < 256 → (b + 208) % 256 ≤ 9 → is_digit b ≡ true
digit-by b lt le = search (arith, nat_tests)

-- what follows a number is shorter than the text, unless the text is empty
pub leading-shorter : (m : ℕ) (bytes : List ℕ) → length (leading m bytes).1 ≤ length bytes - 1
unfolding leading
leading-shorter m [] = omega arith
leading-shorter m (b ∷ bytes) = search (arith, leading-shorter (m * 10 + (b - 48)) bytes)

-- the bytes from an index on are the byte at this index, and the bytes from the next index on
pub drop-one : (bytes : List ℕ) (j : ℕ) → j < length bytes → drop j bytes ≡ get_or bytes j 0 ∷ drop (j + 1) bytes
drop-one bytes j lt = rw add-one (drop-cons bytes j 0 lt)

-- a number with one more digit is below ten times the bound
pub one-digit-more : (n d i : ℕ) → n < 10 ^ i → d < 10 → n * 10 + d < 10 ^ (i + 1)
one-digit-more n d i lt small = let e : 10 ^ (i + 1) ≡ 10 ^ i * 10 = rw add-one (pow-suc 10 i) in omega arith

-- the text of a number of one digit has one byte; the next two lemmas are for two and for three digits
pub digits-one : (n : ℕ) → n < 10 → length (decimal n) ≡ 1
digits-one n lt = ap length (decimal_digit n lt)

pub digits-two : (n : ℕ) → 10 ≤ n → n < 100 → length (decimal n) ≡ 2
digits-two n le lt = search (arith, decimal_step, length-append, digits-one)

pub digits-three : (n : ℕ) → 100 ≤ n → n ≤ 999 → length (decimal n) ≡ 3
digits-three n le lt = search (arith, decimal_step, length-append, digits-two)

-- ---- places in boxes

-- some number below n passes
unfoldable pub any_below : ℕ → (ℕ → Bool) → Bool
any_below zero p = false
any_below (suc n) p = p 0 || any_below n (λ k. p (suc k))

-- if some number below n passes, `any_below` is true
pub any-true : (n k : ℕ) (p : ℕ → Bool) → k < n → p k ≡ true → any_below n p ≡ true
unfolding any_below
any-true zero k p lt e = absurd (omega arith)
any-true (suc n) zero p lt e = rw e refl
any-true (suc n) (suc k) p lt e = rw (any-true n k (λ k. p (suc k)) (omega arith) e) (grind (arith, nat_tests))

-- if no number below n passes, `any_below` is false
pub any-false : (n : ℕ) (p : ℕ → Bool) → ((k : ℕ) → k < n → p k ≡ false) → any_below n p ≡ false
unfolding any_below
any-false zero p h = refl
any-false (suc n) p h = rw (h 0 (omega arith)) (any-false n (λ k. p (suc k)) (λ k lt. h (suc k) (omega arith)))

-- if it is known of each text whether a place is in its boxes, the place is in the boxes of all texts if it is in those
-- of one
pub texts-boxes : (r c n : ℕ) (g : ℕ → List ℕ) (p : ℕ → Bool) → ((k : ℕ) → k < n → (rest : List ℕ) → is_in_boxes (g k ++ rest) r c ≡ (p k || is_in_boxes rest r c))
    → (rest : List ℕ) → is_in_boxes (texts_below n g ++ rest) r c ≡ (any_below n p || is_in_boxes rest r c)
unfolding any_below
texts-boxes r c zero g p h rest = cc (no-texts g)
texts-boxes r c (suc n) g p h rest =
    let more = texts_below n (λ i. g (suc i)) in
    cc (
      texts-first n g,
      append_assoc (g 0) more rest,
      h 0 (omega arith) (more ++ rest),
      texts-boxes r c n (λ i. g (suc i)) (λ i. p (suc i)) (λ k lt. h (suc k) (omega arith)) rest,
      or_assoc (p 0) (any_below n (λ k. p (suc k))) (is_in_boxes rest r c),
    )
