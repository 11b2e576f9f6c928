-- Bits of a bit row that are set at once, and bits that are set one after the other.
use Rattle.std.proofs.Common.{List, [], ◌∷◌, length, get_or, set, ◌≡◌, ℕ, suc, ◌+◌, ◌-◌, ◌*◌, ◌/◌, ◌%◌, ◌^◌, ◌<◌, ◌≤◌, eqb, leb, Bool, true, false, not, ◌&&◌, ◌||◌, bit_or, sym, ap, ◌∙◌, inl, inr, w64, subst, arith}
use Rattle.std.proofs.{lemmas.Nat.{le-div, or_lt, trailing_le, leading_le, leading_top, mod_below, pow_pos, shr_below}, Math.Nat.div-le_self}
use Rattle.std.proofs.lemmas.Nat.Bits.{bit_at_above, bit_at_not, bit_at_ones, bit_at-lt, bit_at-trailing_ones}
use Rattle.{std.proofs.lemmas.Bool.{cases_lt, false≢true, Decides.nat_tests}, qr_matrix.specs.BitRow.{has, has_bit}}
use lib.Count.{count_trailing_zeros, count_leading_zeros}
use Rattle.std.specs.Int.{bit_at, bit_not, trailing_ones, leading_ones}
use Rattle.qr_matrix.proofs.lemmas.bit_row.PlaceLemmas.{has-place, has_bit-or, has_bit-shr, low-bits, word-step, words-small, has_bit-shl-low, has_bit-shl-high}

-- bit j of a number b that is shifted up by s
pub shl-bit : (b s j : ℕ) → has_bit (b * 2 ^ s) j ≡ (leb s j && has_bit b (j - s))
shl-bit b s j = elim (cases_lt j s) [
  | inl l ↦ search (arith, has_bit-shl-low)
  | inr l ↦
      let e : s + (j - s) ≡ j = omega arith in
      search (arith, has_bit-shl-high)
]

-- a word in which bits are set is a bit row with these bits set
pub bits-set : (ws : List ℕ) (c k bits : ℕ) → length ws ≡ 3 → ((j : ℕ) → get_or ws j 0 < 2 ^ 64) → c < 192 → k ≡ c / 64
    → ((j : ℕ) → 64 ≤ c % 64 + j → has_bit bits j ≡ false) → (p : ℕ)
    → has (set ws k (bit_or (get_or ws k 0) (bits * 2 ^ (c % 64) % 2 ^ 64))) p ≡ (has ws p || leb c p && has_bit bits (p - c))
bits-set ws c k bits l w h f past =
    let s = c % 64 in
    let word = get_or ws k 0 in
    let small : bits * 2 ^ s % 2 ^ 64 < 2 ^ 64 = mod_below (bits * 2 ^ s) (2 ^ 64) (pow_pos 64) in
    word-step ws k (bit_or word (bits * 2 ^ s % 2 ^ 64)) (λ p. has ws p || leb c p && has_bit bits (p - c)) l w (or_lt 64 word _ (w k) small) (omega arith)
    (λ j m.
    let p = 64 * k + j in
    let t : leb s j ≡ leb c p = grind (arith, nat_tests) in
    let u : j - s ≡ p - c = omega arith in
    let q : p / 64 ≡ k = omega arith in
    let o : p % 64 ≡ j = omega arith in
    cc (has-place ws p w (omega arith), has_bit-or word (bits * 2 ^ s % 2 ^ 64) j, low-bits 64 (bits * 2 ^ s) j m, shl-bit bits s j))
    (λ p q. none p (has ws p) (has_bit bits (p - c)) (λ m. past (p - c) (omega (arith, q))))
  where
    none : (p : ℕ) (a b : Bool) → (c ≤ p → b ≡ false) → a ≡ (a || leb c p && b)
    none p a b g = grind (arith, nat_tests)

-- ---- bits that are set one after the other

-- the lowest bits of a word, as many as it has trailing ones, are set
trailing-set : (a k : ℕ) → a < 2 ^ 64 → k < trailing_ones w64 a → has_bit a k ≡ true
unfolding has_bit
trailing-set a k l m = elim (cases_lt (a + 1) (2 ^ 64)) [
  | inl h ↦ ap (λ z. eqb z 1) ((bit_at-trailing_ones w64 a h).2 k m)
  | inr h ↦
      let e : a ≡ 2 ^ 64 - 1 = omega arith in
      ap (λ z. eqb (bit_at z k) 1) e ∙ ap (λ z. eqb z 1) (bit_at_ones 64 k (omega (arith, trailing_le 64 (bit_not w64 a))))
]

-- the bit after the trailing ones of a word is not set
trailing-ends : (a : ℕ) → a < 2 ^ 64 → trailing_ones w64 a < 64 → has_bit a (trailing_ones w64 a) ≡ false
unfolding has_bit count_trailing_zeros
trailing-ends a l m = elim (cases_lt (a + 1) (2 ^ 64)) [
  | inl h ↦ ap (λ z. eqb z 1) (bit_at-trailing_ones w64 a h).1
  | inr h ↦
      let e : a ≡ 2 ^ 64 - 1 = omega arith in
      search arith
]

-- no bit of a number below 2 ^ n is set from bit n on
pub unset-above : (a n k : ℕ) → a < 2 ^ n → n ≤ k → has_bit a k ≡ false
unfolding has_bit
unset-above a n k l m = ap (λ z. eqb z 1) (bit_at_above a n k l m)

-- a word that is shifted down by s has at most 64 - s trailing ones
trailing-few : (a s : ℕ) → s < 64 → a < 2 ^ 64 → a < 2 ^ (64 - s) → s + trailing_ones w64 a ≤ 64
trailing-few a s h l m = elim (cases_lt (64 - s) (trailing_ones w64 a)) [
  | inl g ↦ absurd (false≢true (sym (unset-above a (64 - s) (64 - s) m (omega arith)) ∙ trailing-set a (64 - s) l g))
  | inr g ↦ omega arith
]

-- the highest bits of a word, as many as it has leading ones, are set
leading-set : (a k : ℕ) → a < 2 ^ 64 → k < leading_ones w64 a → has_bit a (63 - k) ≡ true
unfolding has_bit
leading-set a k l m = elim (cases_lt 0 (bit_not w64 a)) [
  | inl h ↦
      let top = leading_top 64 (bit_not w64 a) h (omega arith) in
      let zero_bit = bit_at_above (bit_not w64 a) (suc top.0) (63 - k) top.3 (omega (arith, top.1)) in
      let one_bit : bit_at a (63 - k) ≡ 1 = omega (arith, zero_bit, bit_at_not w64 a (63 - k) l (omega arith), bit_at-lt a (63 - k)) in
      ap (λ z. eqb z 1) one_bit
  | inr h ↦
      let e : a ≡ 2 ^ 64 - 1 = omega arith in
      cc (bit_at_ones 64 (63 - k) (omega arith))
]

-- the bit below the leading ones of a word is not set
leading-ends : (a : ℕ) → a < 2 ^ 64 → leading_ones w64 a < 64 → has_bit a (63 - leading_ones w64 a) ≡ false
unfolding has_bit count_leading_zeros
leading-ends a l m = elim (cases_lt 0 (bit_not w64 a)) [
  | inl h ↦
      let top = leading_top 64 (bit_not w64 a) h (omega arith) in
      let k : 63 - leading_ones w64 a ≡ top.0 = omega (arith, top.1) in
      let one_bit : bit_at (bit_not w64 a) top.0 ≡ 1 = top-bit (bit_not w64 a) top.0 top.2 top.3 in
      let zero_bit : bit_at a top.0 ≡ 0 = omega (arith, one_bit, bit_at_not w64 a top.0 l (omega (arith, top.1)), bit_at-lt a top.0) in
      ap (λ z. eqb (bit_at a z) 1) k ∙ ap (λ z. eqb z 1) zero_bit
  | inr h ↦ search arith
]
  where
    top-bit : (n j : ℕ) → 2 ^ j ≤ n → n < 2 ^ suc j → bit_at n j ≡ 1
    top-bit n j p q =
        let least : 1 ≤ n / 2 ^ j = le-div 1 n (2 ^ j) (pow_pos j) (omega arith) in
        let more : suc j ≡ 1 + j = omega arith in
        let most : n / 2 ^ j < 2 = shr_below n 1 j (subst (λ z. n < 2 ^ z) more q) in
        omega arith

-- a word that is shifted up by 63 - s has at most s + 1 leading ones
leading-few : (x s : ℕ) → s < 64 → leading_ones w64 (x * 2 ^ (63 - s) % 2 ^ 64) ≤ s + 1
leading-few x s h = let a = x * 2 ^ (63 - s) % 2 ^ 64 in elim (cases_lt (s + 1) (leading_ones w64 a)) [
  | inl g ↦
      let k = 63 - (s + 1) in
      let most = leading_le 64 (bit_not w64 a) in
      absurd (false≢true (sym (low-bits 64 (x * 2 ^ (63 - s)) k (omega arith) ∙ has_bit-shl-low x (63 - s) k (omega arith)) ∙ leading-set a (s + 1) (mod_below _ (2 ^ 64) (pow_pos 64)) g))
  | inr g ↦ g
]

-- the bits from place c up that are read as set
pub set-up : (ws : List ℕ) (c i : ℕ) → ((j : ℕ) → get_or ws j 0 < 2 ^ 64) → c < 192 → i ≡ c / 64
    → (c % 64 + trailing_ones w64 (get_or ws i 0 / 2 ^ (c % 64)) ≤ 64) × ((k : ℕ) → k < trailing_ones w64 (get_or ws i 0 / 2 ^ (c % 64)) → has ws (c + k) ≡ true)
    × (c % 64 + trailing_ones w64 (get_or ws i 0 / 2 ^ (c % 64)) < 64 → has ws (c + trailing_ones w64 (get_or ws i 0 / 2 ^ (c % 64))) ≡ false)
set-up ws c i w l e =
    let s = c % 64 in let a = get_or ws i 0 / 2 ^ s in
    let small : a < 2 ^ (64 - s) = shr-small (get_or ws i 0) s (omega arith) (w i) in
    let word : a < 2 ^ 64 = shr-word (get_or ws i 0) (2 ^ s) (w i) in
    let few = trailing-few a s (omega arith) word small in (
      few,
      λ k m.
          let p : (c + k) / 64 ≡ i = omega arith in let q : (c + k) % 64 ≡ k + s = omega arith in
          cc (has-place ws (c + k) w (omega arith), has_bit-shr (get_or ws i 0) s k, trailing-set a k word m),
      λ m.
          let k = trailing_ones w64 a in
          let p : (c + k) / 64 ≡ i = omega arith in let q : (c + k) % 64 ≡ k + s = omega arith in
          cc (has-place ws (c + k) w (omega arith), has_bit-shr (get_or ws i 0) s k, trailing-ends a word (omega arith)),
    )
  where
    shr-small : (n s : ℕ) → s ≤ 64 → n < 2 ^ 64 → n / 2 ^ s < 2 ^ (64 - s)
    shr-small n s l m = let e : 64 ≡ 64 - s + s = omega arith in shr_below n (64 - s) s (subst (λ z. n < 2 ^ z) e m)

    shr-word : (n d : ℕ) → n < 2 ^ 64 → n / d < 2 ^ 64
    shr-word n d l = omega (arith, div-le_self n d)

-- the bits from place c down that are read as set
pub set-down : (ws : List ℕ) (c i : ℕ) → ((j : ℕ) → get_or ws j 0 < 2 ^ 64) → c < 192 → i ≡ c / 64
    → (leading_ones w64 (get_or ws i 0 * 2 ^ (63 - c % 64) % 2 ^ 64) ≤ c % 64 + 1) × ((k : ℕ) → k < leading_ones w64 (get_or ws i 0 * 2 ^ (63 - c % 64) % 2 ^ 64) → has ws (c - k) ≡ true)
    × (leading_ones w64 (get_or ws i 0 * 2 ^ (63 - c % 64) % 2 ^ 64) ≤ c % 64 → has ws (c - leading_ones w64 (get_or ws i 0 * 2 ^ (63 - c % 64) % 2 ^ 64)) ≡ false)
set-down ws c i w l e =
    let s = c % 64 in let x = get_or ws i 0 in let few = leading-few x s (omega arith) in (
      few,
      λ k m.
          let p : (c - k) / 64 ≡ i = omega arith in let q : (c - k) % 64 ≡ s - k = omega arith in
          let r : 63 - s + (s - k) ≡ 63 - k = omega arith in
          let bit = leading-set (x * 2 ^ (63 - s) % 2 ^ 64) k (mod_below _ (2 ^ 64) (pow_pos 64)) m in
          cc (has-place ws (c - k) w (omega arith), low-bits 64 (x * 2 ^ (63 - s)) (63 - k) (omega arith), has_bit-shl-high x (63 - s) (s - k), bit),
      λ m.
          let k = leading_ones w64 (x * 2 ^ (63 - s) % 2 ^ 64) in
          let p : (c - k) / 64 ≡ i = omega arith in let q : (c - k) % 64 ≡ s - k = omega arith in
          let r : 63 - s + (s - k) ≡ 63 - k = omega arith in
          let bit = leading-ends (x * 2 ^ (63 - s) % 2 ^ 64) (mod_below _ (2 ^ 64) (pow_pos 64)) (omega arith) in
          cc (has-place ws (c - k) w (omega arith), low-bits 64 (x * 2 ^ (63 - s)) (63 - k) (omega arith), has_bit-shl-high x (63 - s) (s - k), bit),
    )

-- ---- all bits inverted

-- a word with all bits inverted
inverted-bit : (a k : ℕ) → a < 2 ^ 64 → k < 64 → has_bit (2 ^ 64 - 1 - a) k ≡ not (has_bit a k)
unfolding has_bit
inverted-bit a k l m = let e = bit_at_not w64 a k l m in let two = bit_at-lt a k in grind (arith, nat_tests)

-- a bit row with all bits inverted
pub inverted-row : (ws : List ℕ) (i : ℕ) → ((j : ℕ) → get_or ws j 0 < 2 ^ 64) → i < 192
    → has ((2 ^ 64 - 1 - get_or ws 0 0) ∷ (2 ^ 64 - 1 - get_or ws 1 0) ∷ (2 ^ 64 - 1 - get_or ws 2 0) ∷ []) i ≡ not (has ws i)
inverted-row ws i w l = search (arith, has-place, words-small, inverted-bit)
