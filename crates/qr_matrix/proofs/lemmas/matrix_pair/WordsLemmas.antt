-- The first words of two bit rows, and what is put over them.
use Rattle.qr_matrix.proofs.lemmas.{bit_row.PlaceLemmas.{has_bit-low, has_bit-middle, has_bit-high}, matrix_pair.PairLemmas.word-small}
use Rattle.qr_matrix.specs.{BitRow.{has, has_bit, bit_row_number}, Steps.{IsPair, lane, word_of}}
use Rattle.std.proofs.Common.{◌≡◌, ◌⊎◌, inl, inr, ℕ, ◌-◌, ◌^◌, ◌<◌, ◌≤◌, List, [], ◌∷◌, Bool, false, cond, ltb, eqb, sym, ap, ◌∙◌, arith}
use Rattle.std.proofs.lemmas.{Bool.cases_lt, Nat.Bits.bit_at_above}

module _ (a b d : List ℕ) (s : Bool) (pa : IsPair a) (pb : IsPair b) where
  -- the bits of a row by its words
  low-bit : (i : ℕ) → i < 64 → has (lane (a ∷ b ∷ d ∷ []) s) i ≡ has_bit (word_of a s) i
  unfolding has bit_row_number lane
  low-bit i l = has_bit-low (word_of a s) (word_of b s) (word_of d s) i l

  middle-bit : (i : ℕ) → 64 ≤ i → i < 128 → has (lane (a ∷ b ∷ d ∷ []) s) i ≡ has_bit (word_of b s) (i - 64)
  unfolding has bit_row_number lane
  middle-bit i k l = search (arith, has_bit-middle, word-small)

  high-bit : (i : ℕ) → 128 ≤ i → has (lane (a ∷ b ∷ d ∷ []) s) i ≡ has_bit (word_of d s) (i - 128)
  unfolding has bit_row_number lane
  high-bit i k = search (arith, has_bit-high, word-small)

-- a word has no bit from 64 on
beyond : (y : ℕ) → y < 2 ^ 64 → (j : ℕ) → 64 ≤ j → has_bit y j ≡ false
unfolding has_bit
beyond y k j n = ap (λ z. eqb z 1) (bit_at_above y 64 j k n)

-- the words a, b and d of a row, and what is put over the first one, two or three
module _ (a b d x y z : List ℕ) (s : Bool) (pa : IsPair a) (pb : IsPair b) (px : IsPair x) (py : IsPair y) (c : ℕ) where
  first-of : (p q : Bool) (n : ℕ) → c < n → p ≡ cond (ltb c n) p q
  first-of p q n l = search arith

  second-of : (p q : Bool) (n : ℕ) → n ≤ c → q ≡ cond (ltb c n) p q
  second-of p q n l = search arith

  abbrev new : Bool
  new = has (lane (x ∷ y ∷ z ∷ []) s) c

  abbrev old : Bool
  old = has (lane (a ∷ b ∷ d ∷ []) s) c

  -- with the first word of the new row, the bits below 64 are new
  pub over-one : has (lane (x ∷ b ∷ d ∷ []) s) c ≡ cond (ltb c 64) (has (lane (x ∷ y ∷ z ∷ []) s) c) (has (lane (a ∷ b ∷ d ∷ []) s) c)
  over-one = search (arith, low-bit, first-of, middle-bit, second-of, high-bit)

  -- with the first two words of the new row, the bits below 128 are new
  pub over-two : has (lane (x ∷ y ∷ d ∷ []) s) c ≡ cond (ltb c 128) (has (lane (x ∷ y ∷ z ∷ []) s) c) (has (lane (a ∷ b ∷ d ∷ []) s) c)
  over-two = elim (cases_lt c 128) [
    | inl n ↦ same (cases_lt c 64) n ∙ first-of new old 128 n
    | inr n ↦ search (arith, high-bit, second-of)
  ]
    where
      same : (c < 64) ⊎ (64 ≤ c) → c < 128 → has (lane (x ∷ y ∷ d ∷ []) s) c ≡ has (lane (x ∷ y ∷ z ∷ []) s) c
      same (inl k) n = low-bit x y d s px py c k ∙ sym (low-bit x y z s px py c k)
      same (inr k) n = middle-bit x y d s px py c k n ∙ sym (middle-bit x y z s px py c k n)

  -- with all three words of the new row, the bits below 192 are new
  pub over-three : IsPair d → IsPair z → has (lane (x ∷ y ∷ z ∷ []) s) c ≡ cond (ltb c 192) (has (lane (x ∷ y ∷ z ∷ []) s) c) (has (lane (a ∷ b ∷ d ∷ []) s) c)
  over-three pd pz = search (arith, first-of, high-bit, beyond, word-small, second-of)
