-- The bits of a bit row, one by one: what operations on words do to each bit.
use Rattle.std.proofs.Common.{◌≢◌, List, length, get_or, set, ◌≡◌, ℕ, zero, suc, ◌+◌, ◌-◌, ◌*◌, ◌/◌, ◌%◌, ◌^◌, ◌<◌, ◌≤◌, eqb, ltb, Bool, false, not, ◌&&◌, cond, bit_and, bit_or, bit_xor, ◌||◌, count_ones, ap, ◌∙◌, subst, arith}
use Rattle.std.{proofs.{lemmas.Nat.{and_le_l, ones_cat, ones-le, shr-shr, shr_split, mod_below, pow_pos, shr_below}, Math.ListN.length-set}, specs.Int.bit_at}
use Rattle.std.proofs.lemmas.Nat.Bits.{bit_at_above, bit_at_and, bit_at_or, bit_at_xor, bit_at-lt, bit_at_cat_low, bit_at_ones, bit_at_ones_above, bit_at-suc, bit_at_cat_high, bit_at-zero, shr_and_one}
use Rattle.std.proofs.lemmas.{List.{get_or_past, get_or-set_same, get_or-set_other}, Bool.Decides.nat_tests}
use lib.Count.{ones, ones_in}
use Rattle.qr_matrix.specs.{Steps.AreWords, BitRow.{has, has_bit, bit_row_number}, Grid.is_same, Sums.{count_below, sum_below}}
use Rattle.qr_matrix.proofs.lemmas.bit_row.{WordLemmas.three, SumLemmas.sum_below-same}

-- bit c of the conjunction of a and b is set exactly if it is set in a and in b
pub has_bit-and : (a b c : ℕ) → has_bit (bit_and a b) c ≡ (has_bit a c && has_bit b c)
unfolding has_bit
has_bit-and a b c = grind (arith, nat_tests, bit_at-lt, bit_at_and)

-- bit c of the disjunction of a and b is set exactly if it is set in a or in b
pub has_bit-or : (a b c : ℕ) → has_bit (bit_or a b) c ≡ (has_bit a c || has_bit b c)
unfolding has_bit
has_bit-or a b c = grind (arith, nat_tests, bit_at-lt, bit_at_or)

-- bit c of the exclusive or of a and b is set exactly if a and b differ in bit c
pub has_bit-xor : (a b c : ℕ) → has_bit (bit_xor a b) c ≡ not (is_same (has_bit a c) (has_bit b c))
unfolding has_bit
has_bit-xor a b c = search (arith, bit_at-lt, bit_at_xor, nat_tests)

-- bit c of n shifted down by k is bit c + k of n
pub has_bit-shr : (n k c : ℕ) → has_bit (n / 2 ^ k) c ≡ has_bit n (c + k)
unfolding has_bit
has_bit-shr n k c = search (arith, shr-shr)

-- in the number whose s lowest bits are 1, bit c is set exactly if c is below s
pub has_bit-ones : (s c : ℕ) → has_bit (2 ^ s - 1) c ≡ ltb c s
unfolding has_bit
has_bit-ones s c = search (arith, bit_at_ones, nat_tests, bit_at_ones_above)

-- a number x below 2 has x % 2 bits that are set
one_bit : (x : ℕ) → x < 2 → ones x ≡ x % 2
unfolding ones ones_in
one_bit x h = grind (arith, nat_tests)

-- the number of set bits of a number N of n bits is the sum of its bits
ones-bits : (n N : ℕ) → N < 2 ^ n → ones N ≡ sum_below n (λ c. bit_at N c)
ones-bits zero N h = omega (arith, ones-le 0 N h)
ones-bits (suc n) N h =
    let high = N / 2 ^ n in
    let low = N % 2 ^ n in
    let split : high * 2 ^ n + low ≡ N = shr_split N n in
    let high_is : high < 2 ^ 1 = shr_below N 1 n (subst (λ z. N < 2 ^ z) (more n) h) in
    search (arith, ones_cat, one_bit, sum_below-same, bit_at_cat_low, ones-bits n low (mod_below N (2 ^ n) (pow_pos n)))
  where
    more : (n : ℕ) → suc n ≡ 1 + n
    more n = omega arith

-- the population count of a number N of n bits is the number of its bits that are set
pub ones-count : (n N : ℕ) → N < 2 ^ n → count_ones N ≡ count_below n (has_bit N)
unfolding has_bit
ones-count n N h = ones-bits n N h ∙ sum_below-same n (λ c. bit_at N c) (λ c. cond (eqb (bit_at N c) 1) 1 0) (search (arith, bit_at-lt, nat_tests))

-- bit c of a bit row that is shifted up by one is bit c - 1 of the bit row, and bit 0 is not set
pub has_bit-up : (n c : ℕ) → c < 192 → has_bit (n * 2 % 2 ^ 192) c ≡ (ltb 0 c && has_bit n (c - 1))
unfolding has_bit
has_bit-up n zero h = search arith
has_bit-up n (suc c) h = search (arith, bit_at-suc, shr_split, bit_at_cat_low (n * 2 / 2 ^ 192) 192 (n * 2 % 2 ^ 192) (suc c) h)

-- ---- one bit of three words

-- each bit below 64 of a bit row is the same bit of its low word
pub has_bit-low : (a b d c : ℕ) → c < 64 → has_bit (three a b d) c ≡ has_bit a c
unfolding has_bit
has_bit-low a b d c h = search (arith, bit_at_cat_low)

-- bit c of a bit row, from 64 to 127, is bit c - 64 of its middle word
pub has_bit-middle : (a b d c : ℕ) → a < 2 ^ 64 → 64 ≤ c → c < 128 → has_bit (three a b d) c ≡ has_bit b (c - 64)
unfolding has_bit
has_bit-middle a b d c h k l = cc (bit_at_cat_high (d * 2 ^ 64 + b) 64 a c h k, bit_at_cat_low d 64 b (c - 64) (omega arith))

-- bit c of a bit row, from 128 on, is bit c - 128 of its high word
pub has_bit-high : (a b d c : ℕ) → a < 2 ^ 64 → b < 2 ^ 64 → 128 ≤ c → has_bit (three a b d) c ≡ has_bit d (c - 128)
unfolding has_bit
has_bit-high a b d c h k l =
    let e : c - 64 - 64 ≡ c - 128 = omega arith in
    cc (bit_at_cat_high (d * 2 ^ 64 + b) 64 a c h (omega arith), bit_at_cat_high d 64 b (c - 64) k (omega arith))

-- ---- one bit by its word

-- each of the three words has 64 bits, and every word after them is 0
pub words-small : (ws : List ℕ) → AreWords ws → (j : ℕ) → get_or ws j 0 < 2 ^ 64
words-small ws (l, a, b, d) zero = a
words-small ws (l, a, b, d) (suc zero) = b
words-small ws (l, a, b, d) (suc (suc zero)) = d
words-small ws (l, a, b, d) (suc (suc (suc j))) = search (arith, get_or_past)

-- bit i of a bit row is bit i % 64 of word i / 64
pub has-place : (ws : List ℕ) (i : ℕ) → ((k : ℕ) → get_or ws k 0 < 2 ^ 64) → i < 192 → has ws i ≡ has_bit (get_or ws (i / 64) 0) (i % 64)
unfolding has bit_row_number
has-place ws i w l = search (arith, has_bit-low, has_bit-middle, has_bit-high)

-- no bit from 192 on is set in a bit row
pub has-past : (ws : List ℕ) (i : ℕ) → ((k : ℕ) → get_or ws k 0 < 2 ^ 64) → 192 ≤ i → has ws i ≡ false
unfolding has has_bit bit_row_number
has-past ws i w l = ap (λ z. eqb z 1) (bit_at_above (three (get_or ws 0 0) (get_or ws 1 0) (get_or ws 2 0)) 192 i (search arith) l)

-- the bit that the code reads is bit c of the bit row
pub at-step : (ws : List ℕ) (c k : ℕ) → ((j : ℕ) → get_or ws j 0 < 2 ^ 64) → c < 192 → k ≡ c / 64 → eqb (bit_and (get_or ws k 0 / 2 ^ (c % 64)) 1) 1 ≡ has ws c
unfolding has_bit
at-step ws c k w h e = search (arith, shr_and_one, has-place)

-- three words of 64 bits are still three words of 64 bits after one of them is replaced by such a word
pub set-words : (ws : List ℕ) (k x : ℕ) → k < 3 → x < 2 ^ 64 → AreWords ws → AreWords (set ws k x)
set-words ws k x l m w = search (arith, words-small, length-set, get_or-set_same, get_or-set_other)

-- the conjunction of a word with any number is a word
pub and-small : (n m : ℕ) → n < 2 ^ 64 → bit_and n m < 2 ^ 64
and-small n m h = let e = and_le_l n m in omega arith

-- if one word is replaced by one that differs from it in bit c % 64 alone, only bit c of the bit row changes
pub put-step : (ws : List ℕ) (c k x : ℕ) (d : Bool) → length ws ≡ 3 → ((j : ℕ) → get_or ws j 0 < 2 ^ 64) → x < 2 ^ 64 → c < 192 → k ≡ c / 64 → eqb (bit_at x (c % 64)) 1 ≡ d → ((j : ℕ) → j < 64 → j ≢ c % 64 → bit_at x j ≡ bit_at (get_or ws k 0) j) → (i : ℕ) → has (set ws k x) i ≡ cond (eqb i c) d (has ws i)
unfolding has_bit
put-step ws c k x d l w m h e here there i =
    search (arith, has-place, get_or-set_same, nat_tests, get_or-set_other, has-past)

-- ---- neighbouring places

-- the n lowest bits of m are the bits of m % 2 ^ n
pub low-bits : (n m k : ℕ) → k < n → has_bit (m % 2 ^ n) k ≡ has_bit m k
unfolding has_bit
low-bits n m k l = cc (bit_at_cat_low (m / 2 ^ n) n (m % 2 ^ n) k l, shr_split m n)

-- the n bits from place c of a bit row on, which are in one word, are the lowest bits of a number
places-step : (ws : List ℕ) (n c i k : ℕ) → ((j : ℕ) → get_or ws j 0 < 2 ^ 64) → c < 192 →
    c % 64 + n ≤ 64 → i ≡ c / 64 → k < n → has_bit (get_or ws i 0 / 2 ^ (c % 64) % 2 ^ n) k ≡ has ws (c + k)
places-step ws n c i k w h m e l = search (arith, low-bits, has_bit-shr, has-place)

-- the bits that are read are eight places
pub eight-step : (ws : List ℕ) (c i k : ℕ) → ((j : ℕ) → get_or ws j 0 < 2 ^ 64) → c < 192 → c % 8 ≡ 0 → i ≡ c / 64 → k < 8 → has_bit (get_or ws i 0 / 2 ^ (c % 64) % 256) k ≡ has ws (c + k)
eight-step ws c i k w h m e l = places-step ws 8 c i k w h (omega arith) e l

-- a bit row with a new word k has the bits f, if this word has those of its places, and the others had theirs
pub word-step : (ws : List ℕ) (k x : ℕ) (f : ℕ → Bool) → length ws ≡ 3 → ((j : ℕ) → get_or ws j 0 < 2 ^ 64) → x < 2 ^ 64 → k < 3 → ((j : ℕ) → j < 64 → has_bit x j ≡ f (64 * k + j)) → ((i : ℕ) → (i / 64 ≡ k → ⊥) → has ws i ≡ f i) → (i : ℕ) → has (set ws k x) i ≡ f i
word-step ws k x f l w m n here there i = search (arith, has-place, get_or-set_same, get_or-set_other, has-past)

-- no bit below s is set in a number that is shifted up by s
pub has_bit-shl-low : (d s j : ℕ) → j < s → has_bit (d * 2 ^ s) j ≡ false
unfolding has_bit
has_bit-shl-low d s j l =
    let e : d * 2 ^ s + 0 ≡ d * 2 ^ s = omega arith in
    cc (bit_at_cat_low d s 0 j l, bit_at-zero j)

-- bit s + k of a number that is shifted up by s is bit k of the number
pub has_bit-shl-high : (d s k : ℕ) → has_bit (d * 2 ^ s) (s + k) ≡ has_bit d k
unfolding has_bit
has_bit-shl-high d s k =
    let e : d * 2 ^ s + 0 ≡ d * 2 ^ s = omega arith in
    search (arith, bit_at_cat_high, pow_pos)
