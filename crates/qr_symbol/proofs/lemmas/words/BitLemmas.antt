-- Bits of codewords, and of words that hold several codewords.
use Rattle.{qr_bits.specs.Bits.codeword_bit, qr_matrix.{proofs.Facts.{has_bit-or, has_bit-shr, low-bits, shl-bit, unset-above}, specs.BitRow.has_bit}}
use Rattle.std.proofs.Common.{◌≡◌, ℕ, zero, suc, ◌+◌, ◌-◌, ◌*◌, ◌/◌, ◌%◌, ◌^◌, ◌<◌, ◌≤◌, Bool, false, cond, nat_eq, bit_and, eqb, leb, ◌&&◌, ◌||◌, List, get_or, ap, ◌∙◌, inl, inr, bit_or, arith}
use Rattle.std.proofs.{Math.Pow.pow_mono, lemmas.{Bool.{cases_lt, Decides.nat_tests}, Nat.{pow-add, Bits.{bit_at_cat_low, bit_at_cat_high, shr_and_one}}}}

-- a bit of a word is tested by a shift
pub set-bit : (word i : ℕ) → eqb (bit_and (word / 2 ^ i) 1) 1 ≡ has_bit word i
unfolding has_bit
set-bit word i = ap (λ z. eqb z 1) (shr_and_one word i)

-- ---- bits of codewords

-- a bit of the number 256 a + b from bit 8 on is a bit of a
codewords-high : (a b i : ℕ) → b < 256 → 8 ≤ i → has_bit (256 * a + b) i ≡ nat_eq (a / 2 ^ (i - 8) % 2) 1
unfolding has_bit
codewords-high a b i l m = let e : 256 * a + b ≡ a * 2 ^ 8 + b = omega arith in cc (bit_at_cat_high a 8 b i l m)

-- a bit of the number 256 a + b below bit 8 is a bit of b
codewords-low : (a b i : ℕ) → i < 8 → has_bit (256 * a + b) i ≡ nat_eq (b / 2 ^ i % 2) 1
unfolding has_bit
codewords-low a b i l = let e : 256 * a + b ≡ a * 2 ^ 8 + b = omega arith in cc (bit_at_cat_low a 8 b i l)

-- the highest bit of a word, alone in a number
pub highest-bit : (n k : ℕ) → n < 2 ^ 64 → has_bit (n / 2 ^ 63) k ≡ (nat_eq k 0 && has_bit n 63)
highest-bit n zero small = has_bit-shr n 63 0
highest-bit n (suc k) small = has_bit-shr n 63 (suc k) ∙ (unset-above n 64 (suc k + 63) small (omega arith) ∙ none (has_bit n 63))
  where
    none : (t : Bool) → false ≡ (nat_eq (suc k) 0 && t)
    none t = grind (arith, nat_tests)

-- it becomes the colour of its row
pub highest-set : (bits row : ℕ) (old new : ℕ → Bool) → bits < 2 ^ 64 → old row ≡ false
    → ((i : ℕ) → new i ≡ (old i || leb row i && has_bit (bits / 2 ^ 63) (i - row)))
    → (i : ℕ) → new i ≡ cond (nat_eq i row) (has_bit bits 63) (old i)
highest-set bits row old new small light set i = grind (arith, nat_tests, highest-bit)

-- it is in the word of its row
pub highest-within : (bits row k : ℕ) → bits < 2 ^ 64 → 64 ≤ row % 64 + k → has_bit (bits / 2 ^ 63) k ≡ false
highest-within bits row k small l = highest-bit bits k small ∙ none (has_bit bits 63)
  where
    none : (t : Bool) → (nat_eq k 0 && t) ≡ false
    none t = grind (arith, nat_tests)

-- a word with one more codeword contains eight more bits
pub codewords-more : (cw : List ℕ) (p n w b : ℕ) → b ≡ get_or cw (p + n) 0 → b < 256 → ((j : ℕ) → j < 8 * n → has_bit w (8 * n - 1 - j) ≡ codeword_bit cw (8 * p + j)) → (j : ℕ) → j < 8 * (n + 1) → has_bit (256 * w + b) (8 * (n + 1) - 1 - j) ≡ codeword_bit cw (8 * p + j)
unfolding has_bit
codewords-more cw p n w b e s h j l = search (arith, codewords-high, codewords-low)

-- appending a byte to a number makes it at most eight bits longer
pub codewords-fits : (n w b : ℕ) → w < 2 ^ (8 * n) → b < 256 → 256 * w + b < 2 ^ (8 * (n + 1))
codewords-fits n w b l m = let e : 8 * (n + 1) ≡ 8 * n + 8 = omega arith in search (arith, pow-add)

-- a word of fewer than eight codewords has room for one more in 64 bits
pub codewords-room : (n w : ℕ) → n < 8 → w < 2 ^ (8 * n) → w < 2 ^ 56
codewords-room n w l m = let h : 8 * n ≤ 56 = omega arith in omega (arith, pow_mono h)

-- the bits from bit s on of a word of codewords and of the codeword after it
pub next-bit : (cw : List ℕ) (p s w b k : ℕ) → s < 8 → k < 64 → b ≡ get_or cw (p + 8) 0 → b < 256
    → ((j : ℕ) → j < 64 → has_bit w (63 - j) ≡ codeword_bit cw (8 * p + j))
    → has_bit (bit_or (w * 2 ^ s % 2 ^ 64) (b / 2 ^ (8 - s))) (63 - k) ≡ codeword_bit cw (8 * p + s + k)
unfolding has_bit
next-bit cw p s w b k few l is small held =
    let i = 63 - k in
    let high : has_bit (w * 2 ^ s % 2 ^ 64) i ≡ (leb s i && has_bit w (i - s)) = low-bits 64 (w * 2 ^ s) i (omega arith) ∙ shl-bit w s i in
    let low : has_bit (b / 2 ^ (8 - s)) i ≡ has_bit b (i + (8 - s)) = has_bit-shr b (8 - s) i in
    has_bit-or (w * 2 ^ s % 2 ^ 64) (b / 2 ^ (8 - s)) i ∙ (ap (λ z. z || has_bit (b / 2 ^ (8 - s)) i) high ∙ (ap (λ z. leb s i && has_bit w (i - s) || z) low ∙ elim (cases_lt (k + s) 64) [
      | inl m ↦
          let e : i - s ≡ 63 - (k + s) = omega arith in
          let none = unset-above b 8 (i + (8 - s)) small (omega arith) in
          search (arith, codeword_bit)
      | inr m ↦ search (arith, nat_tests, codeword_bit)
    ]))
