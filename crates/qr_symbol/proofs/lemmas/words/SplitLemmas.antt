-- Bits that are exchanged, reversed and divided between the two columns of a strip.
use Rattle.qr_matrix.proofs.Facts.{below-at, has_bit-and, has_bit-ones, has_bit-or, has_bit-shr, has_bit-xor, low-bits, shl-bit, unset-above, &&-left, &&-right}
use Rattle.{qr_matrix.specs.{BitRow.has_bit, Grid.is_same, Sums.all_below}, qr_symbol.specs.Steps.Words.{are_halves, are_pairs, partner, rank_in}}
use Rattle.std.proofs.Common.{◌≡◌, ℕ, ◌+◌, ◌-◌, ◌*◌, ◌/◌, ◌%◌, ◌^◌, ◌<◌, ◌≤◌, Bool, true, false, not, cond, ◌&&◌, eqb, leb, ltb, ◌||◌, bit_and, bit_or, bit_xor, refl, ◌∙◌, ap, inl, inr, arith}
use Rattle.std.proofs.lemmas.Bool.{cases_lt, Decides.nat_tests}

-- ---- bits that are exchanged

-- two bits of the mask that are s apart are not both set
pairs-at : (s m i : ℕ) → are_pairs s m ≡ true → i < 64 → (has_bit m i && has_bit m (i + s)) ≡ false
unfolding are_pairs
pairs-at s m i e l = is-false _ (below-at 64 (λ i. not (has_bit m i && has_bit m (i + s))) e i l)
  where
    is-false : (t : Bool) → not t ≡ true → t ≡ false
    is-false t e = grind (arith, nat_tests)

-- a bit at one of three places
at-place : (n p q r : ℕ) (t u : Bool) → has_bit n (cond t p (cond u q r)) ≡ cond t (has_bit n p) (cond u (has_bit n q) (has_bit n r))
at-place n p q r t u = search (arith, nat_tests)

-- a bit that is inverted where it differs from the one above or below
swapped : (a up down t u : Bool) → (t && u) ≡ false
    → not (is_same (not (is_same a (not (is_same a up) && t))) (not (is_same down a) && u)) ≡ cond t up (cond u down a)
swapped a up down t u e = grind (arith, nat_tests)

-- a test that passes only from s on
from : (s i : ℕ) → leb s i ≡ true → i - s + s ≡ i
from s i e = search (arith, nat_tests)

-- after each bit of a mask was exchanged with the one s above it, a bit is the one that was at its partner's place
pub exchanged-bit : (n s m i : ℕ) → are_pairs s m ≡ true → i < 64
    → has_bit (bit_xor (bit_xor n (bit_and (bit_xor n (n / 2 ^ s)) m)) (bit_and (bit_xor n (n / 2 ^ s)) m * 2 ^ s % 2 ^ 64)) i ≡ has_bit n (partner s m i)
exchanged-bit n s m i e l =
    let d = bit_and (bit_xor n (n / 2 ^ s)) m in let low : has_bit (d * 2 ^ s % 2 ^ 64) i ≡ (leb s i && has_bit d (i - s)) = low-bits 64 (d * 2 ^ s) i l ∙ shl-bit d s i in
    search (arith, from, nat_tests, pairs-at, has_bit-xor, swapped, at-place, has_bit-and, has_bit-shr)

-- ---- the two halves

is-below : (a b : ℕ) → ltb a b ≡ true → a < b
is-below a b e = grind (arith, nat_tests)

is-number : (a b : ℕ) → eqb a b ≡ true → a ≡ b
is-number a b e = grind (arith, nat_tests)

-- bit i of the second word is the bit at the place `from i` of the first
abbrev pub AreMoved : (ℕ → ℕ) → ℕ → ℕ → Type 0
AreMoved from a b = (i : ℕ) → i < 64 → has_bit b i ≡ has_bit a (from i)

-- the test that a bit, back through six exchanges, comes from places in the word, and in the end from the
-- place `from i`
is-moved : (p q r s t u from : ℕ → ℕ) → ℕ → Bool
is-moved p q r s t u from i =
    (ltb (u i) 64 && (ltb (t (u i)) 64 && ltb (s (t (u i))) 64)) && ((ltb (r (s (t (u i)))) 64 && ltb (q (r (s (t (u i))))) 64) && eqb (p (q (r (s (t (u i)))))) (from i))

-- six exchanges bring each bit from this place, if all bits pass the test
moved-bit : (p q r s t u from : ℕ → ℕ) (a b c d e f g : ℕ) → all_below 64 (is-moved p q r s t u from) ≡ true
    → AreMoved p a b → AreMoved q b c → AreMoved r c d → AreMoved s d e → AreMoved t e f → AreMoved u f g → AreMoved from a g
unfolding is-moved
moved-bit p q r s t u from a b c d e f g all k l m n o v i small =
    let test = below-at 64 (is-moved p q r s t u from) all i small in
    let first = &&-left _ _ test in let later = &&-right _ _ test in
    let second = &&-right _ _ first in let third = &&-left _ _ later in
    v i small ∙ (o (u i) (is-below _ _ (&&-left _ _ first)) ∙ (n (t (u i)) (is-below _ _ (&&-left _ _ second)) ∙ (m (s (t (u i))) (is-below _ _ (&&-right _ _ second)) ∙ (l (r (s (t (u i)))) (is-below _ _ (&&-left _ _ third)) ∙ (k (q (r (s (t (u i))))) (is-below _ _ (&&-right _ _ third)) ∙ ap (has_bit a) (is-number _ _ (&&-right _ _ later)))))))

-- each bit passes the test, computed
all-unshuffled : all_below 64 (is-moved (partner 1 0x2222222222222222) (partner 2 0xC0C0C0C0C0C0C0C) (partner 4 0xF000F000F000F0) (partner 8 0xFF000000FF00) (partner 16 0xFFFF0000) (λ i. i) (λ i. 2 * (i % 32) + i / 32)) ≡ true
unfolding is-moved has_bit
all-unshuffled = refl

all-shuffled : all_below 64 (is-moved (partner 16 0xFFFF0000) (partner 8 0xFF000000FF00) (partner 4 0xF000F000F000F0) (partner 2 0xC0C0C0C0C0C0C0C) (partner 1 0x2222222222222222) (λ i. i) (λ i. 32 * (i % 2) + i / 2)) ≡ true
unfolding is-moved has_bit
all-shuffled = refl

-- five exchanges divide the bits between the two halves; a sixth one leaves them where they are
pub unshuffled-bit : (a b c d e f : ℕ)
    → AreMoved (partner 1 0x2222222222222222) a b → AreMoved (partner 2 0xC0C0C0C0C0C0C0C) b c → AreMoved (partner 4 0xF000F000F000F0) c d → AreMoved (partner 8 0xFF000000FF00) d e → AreMoved (partner 16 0xFFFF0000) e f → AreMoved (λ i. 2 * (i % 32) + i / 32) a f
unshuffled-bit a b c d e f p q r s t = search (arith, moved-bit, all-unshuffled)

-- the same exchanges in the opposite order bring them back
pub shuffled-bit : (a b c d e f : ℕ)
    → AreMoved (partner 16 0xFFFF0000) a b → AreMoved (partner 8 0xFF000000FF00) b c → AreMoved (partner 4 0xF000F000F000F0) c d → AreMoved (partner 2 0xC0C0C0C0C0C0C0C) d e → AreMoved (partner 1 0x2222222222222222) e f → AreMoved (λ i. 32 * (i % 2) + i / 2) a f
shuffled-bit a b c d e f p q r s t = search (arith, moved-bit, all-shuffled)

-- ---- bits in the other order

halves-at : (s m i : ℕ) → are_halves s m ≡ true → i < 64 → not (is_same (has_bit m i) (leb s i && has_bit m (i - s))) ≡ true
unfolding are_halves
halves-at s m i e l = below-at 64 (λ i. not (is_same (has_bit m i) (leb s i && has_bit m (i - s)))) e i l

-- of two bits that are exchanged, the one from above or the one from below
either : (a up down t u l : Bool) → not (is_same t (l && u)) ≡ true → (up && t || l && (down && u)) ≡ cond t up (cond (l && u) down a)
either a up down t u l e = grind (arith, nat_tests)

-- after all bits were exchanged in pairs, a bit is the one that was at its partner's place
pub all-exchanged-bit : (n s m i : ℕ) → are_halves s m ≡ true → i < 64
    → has_bit (bit_or (bit_and (n / 2 ^ s) m) (bit_and n m * 2 ^ s % 2 ^ 64)) i ≡ has_bit n (partner s m i)
all-exchanged-bit n s m i e l =
    let other = halves-at s m i e l in
    let chosen = either (has_bit n i) (has_bit n (i + s)) (has_bit n (i - s)) (has_bit m i) (has_bit m (i - s)) (leb s i) other in
    search (arith, has_bit-and, has_bit-shr, low-bits, shl-bit, has_bit-or, at-place)

-- six exchanges reverse the order of the bits
pub reversed-bit : (a b c d e f g : ℕ)
    → AreMoved (partner 1 0x5555555555555555) a b → AreMoved (partner 2 0x3333333333333333) b c → AreMoved (partner 4 0xF0F0F0F0F0F0F0F) c d → AreMoved (partner 8 0xFF00FF00FF00FF) d e → AreMoved (partner 16 0xFFFF0000FFFF) e f → AreMoved (partner 32 0xFFFFFFFF) f g → AreMoved (λ i. 63 - i) a g
unfolding is-moved has_bit
reversed-bit a b c d e f g = search (arith, moved-bit)

-- ---- the bits of some rows

-- of the first bits of a word, those of rows that are filled upward
pub upward-bit : (n c i : ℕ) → n < 2 ^ 64 → c ≤ 32 → has_bit (n / 2 ^ (64 - 2 * c)) i ≡ (ltb i (2 * c) && has_bit n (64 - 2 * c + i))
upward-bit n c i small few =
    let e : i + (64 - 2 * c) ≡ 64 - 2 * c + i = omega arith in
    has_bit-shr n (64 - 2 * c) i ∙ (ap (has_bit n) e ∙ within (has_bit n (64 - 2 * c + i)) (λ l. unset-above n 64 (64 - 2 * c + i) small (omega arith)))
  where
    within : (t : Bool) → (2 * c ≤ i → t ≡ false) → t ≡ (ltb i (2 * c) && t)
    within t e = grind (arith, nat_tests)

-- those of rows that are filled downward
pub downward-bit : (n r c i : ℕ) → n < 2 ^ 64 → c ≤ 32 → r < 2 ^ 64 → ((i : ℕ) → i < 64 → has_bit r i ≡ has_bit (n / 2 ^ (64 - 2 * c)) (63 - i)) → has_bit (r / 2 ^ (64 - 2 * c)) i ≡ (ltb i (2 * c) && has_bit n (63 - i))
downward-bit n r c i small few fits is = has_bit-shr r (64 - 2 * c) i ∙ elim (cases_lt i (2 * c)) [
  | inl l ↦ search (arith, nat_tests, has_bit-shr)
  | inr l ↦
      let t : ltb i (2 * c) ≡ false = grind (arith, nat_tests) in
      unset-above r 64 (i + (64 - 2 * c)) fits (omega arith) ∙ rw t refl
]

-- the bits of one of the columns, which are a half of the word
half-bit : (n p c j k : ℕ) (up : Bool) (h b : ℕ) → c ≤ 32 → j < 32 → has_bit h k ≡ has_bit b p → has_bit b p ≡ (ltb p (2 * c) && has_bit n (cond up (64 - 2 * c + p) (63 - p)))
    → 2 * j ≤ p → p ≤ 2 * j + 1 → has_bit h k ≡ (ltb j c && has_bit n (cond up (64 - 2 * c + p) (63 - p)))
half-bit n p c j k up h b few l e f least most = search (arith, nat_tests)

-- only the bits of these rows count
same-where : (j c p q n : ℕ) → (j < c → p ≡ q) → (ltb j c && has_bit n p) ≡ (ltb j c && has_bit n q)
same-where j c p q n e = search (arith, nat_tests)

-- the upper half has the bits that come second, from the topmost row down, and the lower half those that come first
pub halves : (n h b c : ℕ) (up : Bool) → c ≤ 32 → h < 2 ^ 64
    → ((i : ℕ) → i < 64 → has_bit h i ≡ has_bit b (2 * (i % 32) + i / 32))
    → ((i : ℕ) → has_bit b i ≡ (ltb i (2 * c) && has_bit n (cond up (64 - 2 * c + i) (63 - i))))
    → (j : ℕ) → (has_bit (h / 2 ^ 32) j ≡ (ltb j c && has_bit n (cond up (64 - 2 * c + (2 * j + 1)) (63 - (2 * j + 1)))))
    × (has_bit (bit_and h 4294967295) j ≡ (ltb j c && has_bit n (cond up (64 - 2 * c + 2 * j) (63 - 2 * j))))
halves n h b c up few small whole first j = elim (cases_lt j 32) [
  | inl l ↦
      let e : 2 * ((j + 32) % 32) + (j + 32) / 32 ≡ 2 * j + 1 = omega arith in
      let f : 2 * (j % 32) + j / 32 ≡ 2 * j = omega arith in
      let t : ltb j 32 ≡ true = grind (arith, nat_tests) in (
        has_bit-shr h 32 j ∙ half-bit n (2 * j + 1) c j (j + 32) up h b few l (whole (j + 32) (omega arith) ∙ ap (has_bit b) e) (first (2 * j + 1)) (omega arith) (omega arith),
        has_bit-and h (2 ^ 32 - 1) j ∙ (ap (λ z. has_bit h j && z) (has_bit-ones 32 j ∙ t) ∙ (search (arith, half-bit))),
      )
  | inr l ↦
      let t : ltb j c ≡ false = grind (arith, nat_tests) in
      let u : ltb j 32 ≡ false = grind (arith, nat_tests) in (
        has_bit-shr h 32 j ∙ (unset-above h 64 (j + 32) small (omega arith) ∙ rw t refl),
        has_bit-and h (2 ^ 32 - 1) j ∙ (ap (λ z. has_bit h j && z) (has_bit-ones 32 j ∙ u) ∙ (and-false (has_bit h j) ∙ rw t refl)),
      )
]
  where
    and-true : (t : Bool) → (t && true) ≡ t
    and-true t = grind (arith, nat_tests)

    and-false : (t : Bool) → (t && false) ≡ false
    and-false t = grind (arith, nat_tests)

-- the bits of the right column, which are a half that depends on the direction, and those of the left one
pub columns-bits : (n c j : ℕ) (up : Bool) (upper lower : Bool) → c ≤ 32
    → upper ≡ (ltb j c && has_bit n (cond up (64 - 2 * c + (2 * j + 1)) (63 - (2 * j + 1))))
    → lower ≡ (ltb j c && has_bit n (cond up (64 - 2 * c + 2 * j) (63 - 2 * j)))
    → (cond up upper lower ≡ (ltb j c && has_bit n (63 - 2 * rank_in c up j))) × (cond up lower upper ≡ (ltb j c && has_bit n (62 - 2 * rank_in c up j)))
columns-bits n c j up upper lower few e f = grind (arith, same-where)

-- ---- two words in one

-- the word with the lowest 32 bits of a in its upper half, and those of b in its lower half
abbrev pub word-of : ℕ → ℕ → ℕ
word-of a b = bit_or (a * 2 ^ 32 % 2 ^ 64) (bit_and b 4294967295)

-- one of its bits
word-bit : (a b j : ℕ) → j < 64 → has_bit (word-of a b) j ≡ (leb 32 j && has_bit a (j - 32) || has_bit b j && ltb j 32)
word-bit a b j l = cc (has_bit-or (a * 2 ^ 32 % 2 ^ 64) (bit_and b (2 ^ 32 - 1)) j, low-bits 64 (a * 2 ^ 32) j l, shl-bit a 32 j, has_bit-and b (2 ^ 32 - 1) j, has_bit-ones 32 j)

pub upper-bit : (a b j k : ℕ) → j ≡ 32 + k → k < 32 → has_bit (word-of a b) j ≡ has_bit a k
upper-bit a b j k e l = search (arith, nat_tests, word-bit)

pub lower-bit : (a b j : ℕ) → j < 32 → has_bit (word-of a b) j ≡ has_bit b j
lower-bit a b j l = search (arith, nat_tests, word-bit)
