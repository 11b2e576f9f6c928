-- Modules as bits of bytes: eight bits in the other order, eight bits that are put into two bytes, and eight bits that
-- are read from two bytes.
use Rattle.std.proofs.Common.{◌≡◌, ℕ, ◌+◌, ◌-◌, ◌*◌, ◌/◌, ◌%◌, ◌^◌, ◌<◌, ◌≤◌, Bool, true, false, ◌&&◌, ◌||◌, leb, List, length, get_or, set, bit_or, refl, sym, ◌∙◌, inl, inr, arith}
use Rattle.std.proofs.lemmas.Bool.{cases_lt, Decides.nat_tests}
use Rattle.std.proofs.{Math.ListN.{length-set}, lemmas.{List.{get_or-set_same, get_or-set_other}, Nat.Bits.{bit_at_cat_high, bit_at_cat_low}}}
use Rattle.qr_matrix.{proofs.Facts.{below-at, has_bit-or, has_bit-shr, low-bits, same-same, shl-bit, unset-above}, specs.{BitRow.has_bit, Grid.is_same, Sums.all_below}}
use Rattle.qrproved.specs.{Bits.bit_of, declared.bits.TheConstants.REVERSED}

-- a bit of bytes is a bit of one byte
pub at-bit : (xs : List ℕ) (k : ℕ) → bit_of xs k ≡ has_bit (get_or xs (k / 8) 0) (7 - k % 8)
unfolding has_bit
at-bit xs k = refl

-- the table has the numbers in the other order: computed
all-reversed : all_below 256 (λ b. all_below 8 (λ k. is_same (has_bit (bit_or (get_or REVERSED (b % 16) 0 * 16 % 256) (get_or REVERSED (b / 16) 0)) k) (has_bit b (7 - k)))) ≡ true
unfolding has_bit
all-reversed = refl

-- eight bits in the other order
pub bits_reversed : (b k : ℕ) → b < 256 → k < 8 → has_bit (bit_or (get_or REVERSED (b % 16) 0 * 16 % 256) (get_or REVERSED (b / 16) 0)) k ≡ has_bit b (7 - k)
bits_reversed b k l m =
    let test = λ (b k : ℕ). is_same (has_bit (bit_or (get_or REVERSED (b % 16) 0 * 16 % 256) (get_or REVERSED (b / 16) 0)) k) (has_bit b (7 - k)) in
    same-same _ _ (below-at 8 (test b) (below-at 256 (λ b. all_below 8 (test b)) all-reversed b l) k m)

-- the bits of a number that is moved down from the highest byte of two, in this byte
high-bit : (e s j : ℕ) → has_bit (e * 256 / 2 ^ s / 256) j ≡ has_bit e (j + s)
high-bit e s j =
    let up : has_bit (e * 2 ^ 8) (j + 8 + s) ≡ has_bit e (j + s) =
    let i : j + 8 + s - 8 ≡ j + s = omega arith in
    let t : leb 8 (j + 8 + s) ≡ true = grind (arith, nat_tests) in
    shl-bit e 8 (j + 8 + s) ∙ (rw (t, i) refl) in
    has_bit-shr (e * 256 / 2 ^ s) 8 j ∙ (has_bit-shr (e * 256) s (j + 8) ∙ up)

-- and in the byte after it
low-bit : (e s j : ℕ) → j < 8 → has_bit (e * 256 / 2 ^ s % 256) j ≡ (leb 8 (j + s) && has_bit e (j + s - 8))
low-bit e s j l = low-bits 8 (e * 256 / 2 ^ s) j l ∙ (has_bit-shr (e * 256) s j ∙ shl-bit e 8 (j + s))

-- a bit of a byte that is replaced
put-at : (xs : List ℕ) (i v k : ℕ) → i < length xs → k / 8 ≡ i → bit_of (set xs i v) k ≡ has_bit v (7 - k % 8)
put-at xs i v k l e = at-bit (set xs i v) k ∙ (rw (e, get_or-set_same) refl)

-- a bit of another byte
put-there : (xs : List ℕ) (i v k : ℕ) → (k / 8 ≡ i → ⊥) → bit_of (set xs i v) k ≡ bit_of xs k
put-there xs i v k o = search get_or-set_other

-- the bytes with the first of the two bytes changed
abbrev first : List ℕ → ℕ → ℕ → List ℕ
first xs at e = set xs (at / 8) (bit_or (get_or xs (at / 8) 0) (e * 256 / 2 ^ (at % 8) / 256))

-- the first byte has the bits that it had, and the bits that are put
put-first : (xs : List ℕ) (at e k : ℕ) → at / 8 < length xs → k / 8 ≡ at / 8 → bit_of (first xs at e) k ≡ (bit_of xs k || has_bit e (7 - k % 8 + at % 8))
put-first xs at e k l same =
    put-at xs (at / 8) (bit_or (get_or xs (at / 8) 0) (e * 256 / 2 ^ (at % 8) / 256)) k l same
    ∙ (has_bit-or (get_or xs (at / 8) 0) (e * 256 / 2 ^ (at % 8) / 256) (7 - k % 8)
    ∙ cc (high-bit e (at % 8) (7 - k % 8), at-bit xs k, same))

-- the bits before those that are put stay
pub first-before : (xs : List ℕ) (at e k : ℕ) → at / 8 < length xs → e < 256 → k < at → bit_of (first xs at e) k ≡ bit_of xs k
first-before xs at e k l small before = elim (cases_lt (k / 8) (at / 8)) [
  | inl m ↦ put-there xs (at / 8) _ k (λ n. absurd (omega arith))
  | inr m ↦
      let same : k / 8 ≡ at / 8 = omega arith in
      let none : has_bit e (7 - k % 8 + at % 8) ≡ false = unset-above e 8 (7 - k % 8 + at % 8) small (omega arith) in
      put-first xs at e k l same ∙ (rw none (or-false (bit_of xs k)))
]
  where
    or-false : (b : Bool) → (b || false) ≡ b
    or-false true = refl
    or-false false = refl

-- the bits that are put in the first byte
pub first-here : (xs : List ℕ) (at e k j : ℕ) → at / 8 < length xs → at + j ≡ k → k / 8 ≡ at / 8 → bit_of xs k ≡ false → bit_of (first xs at e) k ≡ has_bit e (7 - j)
first-here xs at e k j l is same clear =
    let i : 7 - k % 8 + at % 8 ≡ 7 - j = omega arith in
    put-first xs at e k l same ∙ (rw (clear, i) refl)

-- the second of the two bytes has the bits that are left
second-bit : (xs : List ℕ) (at e k : ℕ) → at / 8 + 1 < length xs → k / 8 ≡ at / 8 + 1
    → bit_of (set xs (at / 8 + 1) (e * 256 / 2 ^ (at % 8) % 256)) k ≡ (leb 8 (7 - k % 8 + at % 8) && has_bit e (7 - k % 8 + at % 8 - 8))
second-bit xs at e k l same = put-at xs (at / 8 + 1) _ k l same ∙ low-bit e (at % 8) (7 - k % 8) (omega arith)

pub second-before : (xs : List ℕ) (at v k : ℕ) → k / 8 ≤ at / 8 → bit_of (set xs (at / 8 + 1) v) k ≡ bit_of xs k
second-before xs at v k l = put-there xs (at / 8 + 1) v k (λ n. absurd (omega arith))

pub second-here : (xs : List ℕ) (at e k j : ℕ) → at / 8 + 1 < length xs → at + j ≡ k → j < 8 → k / 8 ≡ at / 8 + 1
    → bit_of (set xs (at / 8 + 1) (e * 256 / 2 ^ (at % 8) % 256)) k ≡ has_bit e (7 - j)
second-here xs at e k j l is few same =
    let t : leb 8 (7 - k % 8 + at % 8) ≡ true = grind (arith, nat_tests) in
    let i : 7 - k % 8 + at % 8 - 8 ≡ 7 - j = omega arith in
    second-bit xs at e k l same ∙ (rw (t, i) refl)

pub second-after : (xs : List ℕ) (at e k : ℕ) → at / 8 + 1 < length xs → at + 8 ≤ k → k / 8 ≡ at / 8 + 1
    → bit_of (set xs (at / 8 + 1) (e * 256 / 2 ^ (at % 8) % 256)) k ≡ false
second-after xs at e k l past same =
    let t : leb 8 (7 - k % 8 + at % 8) ≡ false = grind (arith, nat_tests) in
    second-bit xs at e k l same ∙ (rw t refl)

-- eight bits are put into one byte, or into two
pub put-one : (xs : List ℕ) (at e j : ℕ) → at / 8 < length xs → e < 256 → ((k : ℕ) → at ≤ k → k < 8 * (at / 8 + 1) → bit_of xs k ≡ false)
    → (at + j) / 8 ≡ at / 8 → bit_of (first xs at e) (at + j) ≡ has_bit e (7 - j)
put-one xs at e j l small clear same = first-here xs at e (at + j) j l refl same (clear (at + j) (omega arith) (omega arith))

pub put-two : (xs : List ℕ) (at e j : ℕ) → at / 8 + 1 < length xs → e < 256 → j < 8 → ((k : ℕ) → at ≤ k → k < 8 * (at / 8 + 1) → bit_of xs k ≡ false)
    → bit_of (set (first xs at e) (at / 8 + 1) (e * 256 / 2 ^ (at % 8) % 256)) (at + j) ≡ has_bit e (7 - j)
put-two xs at e j l small few clear =
    let ys = first xs at e in
    let long : length ys ≡ length xs = length-set xs (at / 8) _ in
    elim (cases_lt (at / 8) ((at + j) / 8)) [
      | inl m ↦ second-here ys at e (at + j) j (omega (arith, long)) refl few (omega arith)
      | inr m ↦ second-before ys at _ (at + j) (omega arith) ∙ put-one xs at e j (omega arith) small clear (omega arith)
    ]

-- the bits of the second byte that are left become 0
pub put-after : (xs : List ℕ) (at e k : ℕ) → at / 8 + 1 < length xs → at + 8 ≤ k → k / 8 ≡ at / 8 + 1
    → bit_of (set (first xs at e) (at / 8 + 1) (e * 256 / 2 ^ (at % 8) % 256)) k ≡ false
put-after xs at e k l past same =
    let long : length (first xs at e) ≡ length xs = length-set xs (at / 8) _ in
    second-after (first xs at e) at e k (omega (arith, long)) past same

-- the bits of a byte that is set to 0
pub zero-byte : (xs : List ℕ) (k : ℕ) → 0 < length xs → k < 8 → bit_of (set xs 0 0) k ≡ false
zero-byte xs k l m = put-at xs 0 0 k l (omega arith) ∙ unset-above 0 0 (7 - k % 8) (omega arith) (omega arith)

-- a bit of the number 256 a + b from bit 8 on is a bit of a
cat-high : (a b i : ℕ) → b < 256 → 8 ≤ i → has_bit (a * 256 + b) i ≡ has_bit a (i - 8)
unfolding has_bit
cat-high a b i l m = cc (bit_at_cat_high a 8 b i l m)

-- a bit of the number 256 a + b below bit 8 is a bit of b
cat-low : (a b i : ℕ) → i < 8 → has_bit (a * 256 + b) i ≡ has_bit b i
unfolding has_bit
cat-low a b i l = cc (bit_at_cat_low a 8 b i l)

-- eight bits are read from two bytes
pub two-bytes : (xs : List ℕ) (at j : ℕ) → get_or xs (at / 8 + 1) 0 < 256 → j < 8
    → has_bit ((get_or xs (at / 8) 0 * 256 + get_or xs (at / 8 + 1) 0) / 2 ^ (8 - at % 8) % 256) (7 - j) ≡ bit_of xs (at + j)
two-bytes xs at j small l =
    let a = get_or xs (at / 8) 0 in
    let b = get_or xs (at / 8 + 1) 0 in
    let i = 7 - j + (8 - at % 8) in
    low-bits 8 ((a * 256 + b) / 2 ^ (8 - at % 8)) (7 - j) (omega arith) ∙ (has_bit-shr (a * 256 + b) (8 - at % 8) (7 - j) ∙ elim (cases_lt (at % 8 + j) 8) [
      | inl m ↦
          let place : (at + j) / 8 ≡ at / 8 = omega arith in
          let bit : i - 8 ≡ 7 - (at + j) % 8 = omega arith in
          cat-high a b i small (omega arith) ∙ (rw bit (sym (at-bit xs (at + j) ∙ rw place refl)))
      | inr m ↦
          let place : (at + j) / 8 ≡ at / 8 + 1 = omega arith in
          let bit : i ≡ 7 - (at + j) % 8 = omega arith in
          cat-low a b i (omega arith) ∙ (rw bit (sym (at-bit xs (at + j) ∙ rw place refl)))
    ])
