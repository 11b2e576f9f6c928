-- Any two words of the format information differ in at least seven bits, so at most one word is near to what was read.
use Rattle.qr_layout.{proofs.Facts.{below, below-at}, specs.{Format.{word_remainder, format_with, five_bits, format_word_of}, declared.level.Level.Level}}
use Rattle.qr_matrix.{proofs.Facts.{has_bit-and, has_bit-ones, has_bit-shr, has_bit-xor}, specs.{BitRow.has_bit, Grid.{Grid, is_same}}}
use Rattle.{qr_matrix.specs.Sums.{count_below, sum_below}, qr_mending.specs.Format.{bit_differences, copy_cost, format_cost, IsNearFormat}}
use Rattle.{qr_mending.specs.declared.format.FormatCopy.{FormatCopy, TheVariants.{First, Second}}, qr_symbol.proofs.Facts.{level-small, level-one}}
use Rattle.std.proofs.Common.{◌≡◌, ℕ, zero, suc, ◌+◌, ◌-◌, ◌*◌, ◌/◌, ◌^◌, ◌<◌, ◌≤◌, ◌==◌, Bool, true, not, ◌&&◌, ◌||◌, eqb, ltb, bit_and, bit_xor, refl, ◌∙◌, inl, inr, arith}
use Rattle.std.{proofs.{Math.Nat.pow-suc, lemmas.Bool.{cases_eq, ne_eqb}}, specs.Prelude.◌⊎◌}
use borrow.Author.Tests.{ltb-true}

-- ---- three words

-- twice the differences of two words are at most what a copy costs beside both
bits-between : (n : ℕ) (u r p q : ℕ → Bool) →
    2 * bit_differences n p q ≤ (count_below n u + 2 * count_below n (λ i. not (u i) && not (is_same (r i) (p i))))
    + (count_below n u + 2 * count_below n (λ i. not (u i) && not (is_same (r i) (q i))))
bits-between zero u r p q = omega arith
bits-between (suc n) u r p q = search (arith, bits-between n u r p q)

-- equal bits have equal numbers of differences
pub bits-alike : (n : ℕ) (p q r s : ℕ → Bool) → ((i : ℕ) → i < n → p i ≡ r i) →
    ((i : ℕ) → i < n → q i ≡ s i) → bit_differences n p q ≡ bit_differences n r s
bits-alike zero p q r s f g = refl
bits-alike (suc n) p q r s f g =
    cc (
      f n (omega arith),
      g n (omega arith),
      bits-alike n p q r s (λ i l. f i (omega arith))
          (λ i l. g i (omega arith)),
    )

-- ---- the distance of the words

-- the test that two words are equal or differ in at least seven bits
is-far : ℕ → ℕ → Bool
is-far i j = eqb i j || ltb 6 (bit_differences 15 (has_bit (format_with i)) (has_bit (format_with j)))

-- all pairs of words pass the test, computed
all-far : below 32 (λ i. below 32 (is-far i)) ≡ true
unfolding is-far word_remainder has_bit
all-far = refl

-- words that differ in fewer than seven bits are those of one level and mask
pub word-one : (l k : Level) (m n : ℕ) → m < 8 → n < 8 →
    ((l ≡ k) × (m ≡ n)) ⊎ (7 ≤ bit_differences 15 (has_bit (format_word_of l m)) (has_bit (format_word_of k n)))
unfolding is-far format_word_of
word-one l k m n p q =
    let i = five_bits l m in
    let j = five_bits k n in
    let s = level-small l in
    let t = level-small k in
    elim (cases_eq i j) [
      | inl e ↦ inl (level-one l k (omega arith), omega arith)
      | inr o ↦
          inr (ltb-true 6 _ (rw (ne_eqb i j o) at (below-at 32 (is-far i) (below-at 32 (λ k. below 32 (is-far k)) all-far i (omega arith)) j (omega arith))))
    ]

-- twice the differences of two words are at most the cost of a copy beside both
cost-between : (unknown : Grid) (copy : FormatCopy) (g : Grid) (l k : Level) (m n : ℕ) →
    2 * bit_differences 15 (has_bit (format_word_of l m)) (has_bit (format_word_of k n))
    ≤ copy_cost unknown copy g l m + copy_cost unknown copy g k n
cost-between unknown copy g l k m n = search (arith, bits-between)

-- at most one level and mask are near to a copy
pub near-one : (unknown : Grid) (copy : FormatCopy) (g : Grid) (l k : Level) (m n : ℕ) →
    IsNearFormat unknown copy g l m → IsNearFormat unknown copy g k n → (l ≡ k) × (m ≡ n)
near-one unknown copy g l k m n h j = elim (word-one l k m n h.in_range j.in_range) [
  | inl e ↦ e
  | inr a ↦ search (arith, cost-between)
]

-- different words of format information differ in at least seven bits
pub words-apart : (l k : Level) (m n : ℕ) → m < 8 → n < 8 → ((l ≡ k) × (m ≡ n) → ⊥) →
    7 ≤ bit_differences 15 (has_bit (format_word_of l m)) (has_bit (format_word_of k n))
words-apart l k m n p q o = search (arith, word-one)

-- beside two of them both copies cost at least 28
pub costs-apart : (unknown g : Grid) (l k : Level) (m n : ℕ) → m < 8 → n < 8 →
    ((l ≡ k) × (m ≡ n) → ⊥) → 28 ≤ format_cost unknown g l m + format_cost unknown g k n
costs-apart unknown g l k m n p q o =
    omega (
      arith,
      words-apart l k m n p q o,
      cost-between unknown First g l k m n,
      cost-between unknown Second g l k m n,
    )

-- of three levels and masks that are near to a copy, two are the same
pub near-two : (unknown g : Grid) (a b c : FormatCopy) (l k j : Level) (m n i : ℕ) →
    IsNearFormat unknown a g l m → IsNearFormat unknown b g k n → IsNearFormat unknown c g j i →
    ((l ≡ k) × (m ≡ n)) ⊎ (((l ≡ j) × (m ≡ i)) ⊎ ((k ≡ j) × (n ≡ i)))
near-two unknown g First First c l k j m n i x y z = inl (near-one unknown First g l k m n x y)
near-two unknown g Second Second c l k j m n i x y z = inl (near-one unknown Second g l k m n x y)
near-two unknown g First Second First l k j m n i x y z = inr (inl (near-one unknown First g l j m i x z))
near-two unknown g First Second Second l k j m n i x y z = inr (inr (near-one unknown Second g k j n i y z))
near-two unknown g Second First First l k j m n i x y z = inr (inr (near-one unknown First g k j n i y z))
near-two unknown g Second First Second l k j m n i x y z = inr (inl (near-one unknown Second g l j m i x z))

-- beside at most one level and mask both copies cost at most 13
pub sure-one : (unknown g : Grid) (l k : Level) (m n : ℕ) → m < 8 → n < 8 → format_cost unknown g l m ≤ 13 →
    format_cost unknown g k n ≤ 13 → (l ≡ k) × (m ≡ n)
sure-one unknown g l k m n p q h j = elim (word-one l k m n p q) [
  | inl e ↦ e
  | inr a ↦ absurd (omega (arith, cost-between unknown First g l k m n, cost-between unknown Second g l k m n))
]

-- ---- a copy as numbers

-- the bits of a number with a bit more
pub bits-more : (p : ℕ → Bool) (d x i k : ℕ) → x < 2 → 1 ≤ i → (x == 1) ≡ p (i - 1) →
    ((k : ℕ) → i + k < 15 → has_bit d k ≡ p (i + k)) → i - 1 + k < 15 → has_bit (2 * d + x) k ≡ p (i - 1 + k)
unfolding has_bit
bits-more p d x i zero l some first h inside = search arith
bits-more p d x i (suc k) l some first h inside =
    let next : k + 1 ≡ suc k = omega arith in
    let shifted : has_bit ((2 * d + x) / 2 ^ 1) k ≡ has_bit (2 * d + x) (k + 1) = has_bit-shr (2 * d + x) 1 k in
    search arith

-- how large a number is with a bit more
pub bits-few : (d x i : ℕ) → x < 2 → 1 ≤ i → i ≤ 15 → d < 2 ^ (15 - i) → 2 * d + x < 2 ^ (15 - (i - 1))
bits-few d x i l some most h =
    let e : 15 - (i - 1) ≡ suc (15 - i) = omega arith in
    rw e (omega (arith, pow-suc 2 (15 - i)))

-- equal terms have equal sums
pub sum-same : (n : ℕ) (f h : ℕ → ℕ) → ((k : ℕ) → k < n → f k ≡ h k) → sum_below n f ≡ sum_below n h
sum-same zero f h e = refl
sum-same (suc n) f h e = omega (arith, e n (omega arith), sum-same n f h (λ k l. e k (omega arith)))

-- equal bits are equally many
pub bits-counted : (n count : ℕ) (p : ℕ → Bool) → count ≡ count_below 15 (has_bit n) → ((k : ℕ) → k < 15 → has_bit n k ≡ p k) →
    count ≡ count_below 15 p
bits-counted n count p e h = search (arith, sum-same)

-- a bit that was read and is another than the wanted one
misread-bit : (d w u : Bool) → (not (is_same d w) && not (is_same true u)) ≡ (not u && not (is_same d w))
misread-bit d w u = grind arith

-- how many bits were read and are others than the wanted ones
pub misread-counted : (dark word unread count : ℕ) (p q : ℕ → Bool) →
    count ≡ count_below 15 (has_bit (bit_and (bit_xor dark word) (bit_xor 0x7FFF unread))) →
    ((k : ℕ) → k < 15 → has_bit dark k ≡ p k) → ((k : ℕ) → k < 15 → has_bit unread k ≡ q k) →
    count ≡ count_below 15 (λ k. not (q k) && not (is_same (p k) (has_bit word k)))
misread-counted dark word unread count p q e hp hq =
    let wrong = bit_xor dark word in
    let read = bit_xor 0x7FFF unread in
    bits-counted (bit_and wrong read) count (λ k. not (q k) && not (is_same (p k) (has_bit word k))) e
    (λ k m.
    let one : has_bit 0x7FFF k ≡ true = has_bit-ones 15 k ∙ (search arith) in
    cc (has_bit-and wrong read k, has_bit-xor dark word k, has_bit-xor 0x7FFF unread k, hp k m, hq k m, misread-bit (p k) (has_bit word k) (q k)))

-- ---- both copies

-- what holds of both copies holds of each copy
pub each-copy : (P : FormatCopy → Type 0) → P First → P Second → (copy : FormatCopy) → P copy
each-copy P h j copy = grind arith
