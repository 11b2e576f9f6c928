-- Neighbouring bits of the rows of two squares that are written at once, by the words in which they are.
use Rattle.std.proofs.Common.{◌≡◌, ◌⊎◌, inl, inr, ℕ, ◌+◌, ◌-◌, ◌*◌, ◌/◌, ◌%◌, ◌^◌, ◌<◌, ◌≤◌, List, [], ◌∷◌, length, get_or, set, Bool, true, false, not, ◌&&◌, cond, leb, ltb, eqb, bit_and, bit_xor, refl, ap, ◌∙◌, arith}
use Rattle.std.proofs.lemmas.{Bool.{cases_eq, cases_lt, Decides.nat_tests}, Simd.length-zip2}
use lib.Lanes.{zip2}
use Rattle.qr_matrix.specs.{Grid.is_same, Steps.{IsPair, lane, word_of}, BitRow.{has, has_bit}}
use Rattle.qr_matrix.proofs.lemmas.bit_row.{PlaceLemmas.{and-small, has-place, has_bit-and, has_bit-ones, has_bit-shr, has_bit-xor, low-bits, word-step, words-small}, SetLemmas.shl-bit}
use Rattle.qr_matrix.proofs.lemmas.matrix_pair.PairLemmas.{word-small, xor-pair, zip-pair, zip-word}

-- ---- several bits of each word

-- the words of two squares in which the bits of a mask m are those of d and of e
abbrev pub both-chosen : List ℕ → ℕ → ℕ → ℕ → List ℕ
both-chosen words m d e = zip2 bit_xor words (zip2 bit_and (zip2 bit_xor words (d ∷ e ∷ [])) (m ∷ m ∷ []))

pub chosen-pair : (words : List ℕ) (m d e : ℕ) → IsPair words → d < 2 ^ 64 → e < 2 ^ 64 → IsPair (both-chosen words m d e)
chosen-pair words m d e p k l =
    let q : IsPair (zip2 bit_xor words (d ∷ e ∷ [])) = xor-pair words (d ∷ e ∷ []) p (refl, k, l) in
    search (arith, xor-pair, zip-pair, and-small, word-small)

-- bit a, inverted where it differs from b and t holds
chosen : (a b t : Bool) → not (is_same a (not (is_same a b) && t)) ≡ cond t b a
chosen a b t = grind (arith, nat_tests)

-- bit i is that of d, or e in the second word, if bit i of the mask is set, and stays as it was otherwise
pub chosen-bits : (words : List ℕ) (m d e : ℕ) → IsPair words → (s : Bool) (i : ℕ)
    → has_bit (word_of (both-chosen words m d e) s) i ≡ cond (has_bit m i) (has_bit (cond s e d) i) (has_bit (word_of words s) i)
chosen-bits words m d e p s i = search (arith, length-zip2, zip-word, has_bit-xor, has_bit-and, chosen)

-- if the bits t of word k are chosen, no other bit of the row changes
pub chosen-step : (ws : List ℕ) (k y : ℕ) (t x : ℕ → Bool) → length ws ≡ 3 → ((j : ℕ) → get_or ws j 0 < 2 ^ 64) → y < 2 ^ 64 → k < 3
    → ((j : ℕ) → has_bit y j ≡ cond (t j) (x j) (has_bit (get_or ws k 0) j))
    → (i : ℕ) → has (set ws k y) i ≡ cond (eqb (i / 64) k && t (i % 64)) (x (i % 64)) (has ws i)
chosen-step ws k y t x l w m n h i = word-step ws k y (λ i. cond (eqb (i / 64) k && t (i % 64)) (x (i % 64)) (has ws i)) l w m n
    (λ j o.
    let q : (64 * k + j) / 64 ≡ k = omega arith in search (arith, has-place))
    (λ i o. there i (t (i % 64)) (x (i % 64)) (has ws i) o) i
  where
    there : (i : ℕ) (t x y : Bool) → (i / 64 ≡ k → ⊥) → y ≡ cond (eqb (i / 64) k && t) x y
    there i t x y o = let e : eqb (i / 64) k ≡ false = grind (arith, nat_tests) in rw e refl

-- if the bits of a mask m are chosen in one word of each row, no other bit of the rows changes
module _ (a b d : List ℕ) (s : Bool) (k m x y : ℕ) (pa : IsPair a) (pb : IsPair b) (pd : IsPair d) (lx : x < 2 ^ 64) (ly : y < 2 ^ 64) where
  abbrev words : List ℕ
  words = word_of a s ∷ word_of b s ∷ word_of d s ∷ []

  in-words : (j : ℕ) → get_or words j 0 < 2 ^ 64
  in-words = words-small words (refl, word-small a s pa, word-small b s pb, word-small d s pd)

  abbrev are-chosen : List (List ℕ) → Type 0
  are-chosen rows = (i : ℕ) → has (lane rows s) i ≡ cond (eqb (i / 64) k && has_bit m (i % 64)) (has_bit (cond s y x) (i % 64)) (has (lane (a ∷ b ∷ d ∷ []) s) i)

  pub chosen-low : k ≡ 0 → are-chosen (both-chosen a m x y ∷ b ∷ d ∷ [])
  unfolding lane
  chosen-low e = rw e (chosen-step words 0 (word_of (both-chosen a m x y) s) (has_bit m) (has_bit (cond s y x)) refl in-words (word-small (both-chosen a m x y) s (chosen-pair a m x y pa lx ly)) (omega arith) (chosen-bits a m x y pa s))

  pub chosen-middle : k ≡ 1 → are-chosen (a ∷ both-chosen b m x y ∷ d ∷ [])
  unfolding lane
  chosen-middle e = rw e (chosen-step words 1 (word_of (both-chosen b m x y) s) (has_bit m) (has_bit (cond s y x)) refl in-words (word-small (both-chosen b m x y) s (chosen-pair b m x y pb lx ly)) (omega arith) (chosen-bits b m x y pb s))

  pub chosen-high : k ≡ 2 → are-chosen (a ∷ b ∷ both-chosen d m x y ∷ [])
  unfolding lane
  chosen-high e = rw e (chosen-step words 2 (word_of (both-chosen d m x y) s) (has_bit m) (has_bit (cond s y x)) refl in-words (word-small (both-chosen d m x y) s (chosen-pair d m x y pd lx ly)) (omega arith) (chosen-bits d m x y pd s))

-- ---- neighbouring bits of a row, in one word or in two

-- a bit that is set if bit i is one of `count` bits from `index` on, to bit i - index of n, and is y otherwise
abbrev pub among-bits : (index count n i : ℕ) → Bool → Bool
among-bits index count n i y = cond (leb index i && ltb i (index + count)) (has_bit n (i - index)) y

-- a bit of the word q in which the first of these bits is
in-lower : (index count n i q at j m : ℕ) (y : Bool) → index ≡ 64 * q + at → i ≡ 64 * q + j → j < 64 → m ≡ 2 ^ count - 1
    → cond (has_bit (m * 2 ^ at % 2 ^ 64) j) (has_bit (n * 2 ^ at % 2 ^ 64) j) y ≡ among-bits index count n i y
in-lower index count n i q at j m y ei ej l em = elim (cases_lt j at) [
  | inl k ↦
      let t : leb at j ≡ false = grind (arith, nat_tests) in
      let u : leb index i ≡ false = grind (arith, nat_tests) in
      rw (mask, t, u) refl
  | inr k ↦
      let t : leb at j ≡ true = grind (arith, nat_tests) in
      let u : leb index i ≡ true = grind (arith, nat_tests) in
      let v : ltb (j - at) count ≡ ltb i (index + count) = grind (arith, nat_tests) in
      let w : j - at ≡ i - index = omega arith in
      rw (mask, number, t, u, v, w) refl
]
  where
    mask : has_bit (m * 2 ^ at % 2 ^ 64) j ≡ (leb at j && ltb (j - at) count)
    mask = low-bits 64 (m * 2 ^ at) j l ∙ (shl-bit m at j ∙ ap (λ z. leb at j && z) (ap (λ z. has_bit z (j - at)) em ∙ has_bit-ones count (j - at)))

    number : has_bit (n * 2 ^ at % 2 ^ 64) j ≡ (leb at j && has_bit n (j - at))
    number = low-bits 64 (n * 2 ^ at) j l ∙ shl-bit n at j

-- a bit of the next word
in-upper : (index count n i q at j rest m : ℕ) (y : Bool) → index ≡ 64 * q + at → i ≡ 64 * (q + 1) + j → at + rest ≡ 64 → m ≡ 2 ^ count - 1
    → cond (has_bit (m / 2 ^ rest) j) (has_bit (n / 2 ^ rest) j) y ≡ among-bits index count n i y
in-upper index count n i q at j rest m y ei ej er em = search (arith, has_bit-shr, has_bit-ones)

-- all other bits are kept
not-among : (index count n i : ℕ) (y : Bool) → i < index ⊎ index + count ≤ i → among-bits index count n i y ≡ y
not-among index count n i y (inl l) = search arith
not-among index count n i y (inr l) = search arith

-- a bit of one of two numbers that are shifted in the same way
of-either : (f : ℕ → ℕ) (s : Bool) (x y j : ℕ) → has_bit (cond s (f x) (f y)) j ≡ has_bit (f (cond s x y)) j
of-either f false x y j = refl
of-either f true x y j = refl

module _ (index count m x y i : ℕ) (s old new : Bool) (em : m ≡ 2 ^ count - 1) where
  -- the number is n after a shift by k up, and after one down
  abbrev up : ℕ → ℕ → ℕ
  up k n = n * 2 ^ k % 2 ^ 64

  abbrev down : ℕ → ℕ → ℕ
  down k n = n / 2 ^ k

  -- the bits are in one word
  pub put-in-one : index % 64 + count ≤ 64
      → new ≡ cond (eqb (i / 64) (index / 64) && has_bit (up (index % 64) m) (i % 64)) (has_bit (cond s (up (index % 64) x) (up (index % 64) y)) (i % 64)) old
      → new ≡ among-bits index count (cond s x y) i old
  put-in-one l e = e ∙ (ap (λ z. cond (eqb (i / 64) (index / 64) && has_bit (up (index % 64) m) (i % 64)) z old) (of-either (up (index % 64)) s x y (i % 64)) ∙ elim (cases_eq (i / 64) (index / 64)) [
    | inl q ↦ (let t : eqb (i / 64) (index / 64) ≡ true = grind (arith, nat_tests) in rw t (in-lower index count (cond s x y) i (index / 64) (index % 64) (i % 64) m old (omega arith) (omega arith) (omega arith) em))
    | inr o ↦ search (arith, not-among)
  ])

  -- the bits are in two words, the second of which is written after the first
  pub put-in-two : (rest : ℕ) (mid : Bool) → rest ≡ 64 - index % 64 → count ≤ 64
      → mid ≡ cond (eqb (i / 64) (index / 64) && has_bit (up (index % 64) m) (i % 64)) (has_bit (cond s (up (index % 64) x) (up (index % 64) y)) (i % 64)) old
      → new ≡ cond (eqb (i / 64) (index / 64 + 1) && has_bit (down rest m) (i % 64)) (has_bit (cond s (down rest x) (down rest y)) (i % 64)) mid
      → new ≡ among-bits index count (cond s x y) i old
  put-in-two rest mid er l e f =
      let n = cond s x y in
      f ∙ ((λ a. cond (eqb (i / 64) (index / 64 + 1) && has_bit (down rest m) (i % 64)) (of-either (down rest) s x y (i % 64) a) ((e ∙ ap (λ z. cond (eqb (i / 64) (index / 64) && has_bit (up (index % 64) m) (i % 64)) z old) (of-either (up (index % 64)) s x y (i % 64))) a)) ∙ elim (cases_eq (i / 64) (index / 64 + 1)) [
        | inl q ↦
            let t : eqb (i / 64) (index / 64 + 1) ≡ true = grind (arith, nat_tests) in
            let u : eqb (i / 64) (index / 64) ≡ false = grind (arith, nat_tests) in
            rw (t, u) (in-upper index count n i (index / 64) (index % 64) (i % 64) rest m old (omega arith) (omega arith) (omega arith) em)
        | inr o ↦
            let t : eqb (i / 64) (index / 64 + 1) ≡ false = grind (arith, nat_tests) in
            rw t (elim (cases_eq (i / 64) (index / 64)) [
              | inl q ↦ (let u : eqb (i / 64) (index / 64) ≡ true = grind (arith, nat_tests) in rw u (in-lower index count n i (index / 64) (index % 64) (i % 64) m old (omega arith) (omega arith) (omega arith) em))
              | inr p ↦ search (arith, not-among)
            ])
      ])
