-- Operations on the three words of a bit row, as operations on one number.
use Rattle.std.proofs.Common.{◌≡◌, ℕ, ◌+◌, ◌-◌, ◌*◌, ◌/◌, ◌%◌, ◌^◌, ◌<◌, bit_and, bit_or, bit_xor, count_ones, sym, ap, ◌∙◌, subst, arith}
use Rattle.std.proofs.lemmas.Nat.{and_block, or_block, xor_block, ones_cat, shr_high, mod_low, or_shifted, or_comm, pow-add, pow_pos, shl_below, shr_below, shr_split, mod_below}
use Rattle.std.proofs.Math.Nat.{mul-add-mod_self_right}

-- the number that consists of the three words a, b and c of a bit row, a being the lowest word
abbrev pub three : ℕ → ℕ → ℕ → ℕ
three a b c = (c * 2 ^ 64 + b) * 2 ^ 64 + a

-- the conjunctions of the words of two bit rows are the words of the conjunction of the two bit rows
pub three-and : (a b c d e f : ℕ) → a < 2 ^ 64 → b < 2 ^ 64 → d < 2 ^ 64 → e < 2 ^ 64 → three (bit_and a d) (bit_and b e) (bit_and c f) ≡ bit_and (three a b c) (three d e f)
three-and a b c d e f ha hb hd he = omega (arith, and_block)

-- the exclusive ors of the words of two bit rows are the words of the exclusive or of the two bit rows
pub three-xor : (a b c d e f : ℕ) → a < 2 ^ 64 → b < 2 ^ 64 → d < 2 ^ 64 → e < 2 ^ 64 → three (bit_xor a d) (bit_xor b e) (bit_xor c f) ≡ bit_xor (three a b c) (three d e f)
three-xor a b c d e f ha hb hd he = omega (arith, xor_block)

-- the disjunctions of the words of two bit rows are the words of the disjunction of the two bit rows
pub three-or : (a b c d e f : ℕ) → a < 2 ^ 64 → b < 2 ^ 64 → d < 2 ^ 64 → e < 2 ^ 64 → three (bit_or a d) (bit_or b e) (bit_or c f) ≡ bit_or (three a b c) (three d e f)
three-or a b c d e f ha hb hd he = omega (arith, or_block)

-- the numbers of set bits of the three words of a bit row add up to the number of set bits of the bit row
pub three-ones : (a b c : ℕ) → a < 2 ^ 64 → b < 2 ^ 64 → count_ones a + count_ones b + count_ones c ≡ count_ones (three a b c)
three-ones a b c ha hb = omega (arith, ones_cat)

-- two words, shifted down by k bits: the lower word is that of the low one shifted down, and of the high one shifted up
two-down : (j k h l : ℕ) → l < 2 ^ (j + k) → (h * 2 ^ (j + k) + l) / 2 ^ k ≡ h / 2 ^ k * 2 ^ (j + k) + bit_or (l / 2 ^ k) (h * 2 ^ j % 2 ^ (j + k))
two-down j k h l hl =
    let p = pow-add 2 j k in
    let q = h / 2 ^ k in
    let m = h % 2 ^ k in
    let lm = mod_below l (2 ^ k) (pow_pos k) in
    let e : h * 2 ^ j ≡ q * 2 ^ (j + k) + m * 2 ^ j = ap (λ z. z * 2 ^ j) (sym (shr_split h k)) ∙ product q m (2 ^ j) (2 ^ k) (2 ^ (j + k)) p in
    let below : m * 2 ^ j < 2 ^ (j + k) = search (arith, shl_below) in
    let f : h * 2 ^ j % 2 ^ (j + k) ≡ m * 2 ^ j = search (arith, mod_low) in
    let g : bit_or (l / 2 ^ k) (m * 2 ^ j) ≡ m * 2 ^ j + l / 2 ^ k = search (arith, or_comm, or_shifted, shr_below) in
    let s : h * 2 ^ (j + k) + l ≡ (h * 2 ^ j + l / 2 ^ k) * 2 ^ k + l % 2 ^ k = search arith in
    search (arith, shr_high)
  where
    product : (q m J K W : ℕ) → W ≡ J * K → (q * K + m) * J ≡ q * W + m * J
    product q m J K W e = let f = ap (λ z. q * z) e in omega arith

-- the same for words of 64 bits
at-64 : (j k h l : ℕ) → j + k ≡ 64 → l < 2 ^ 64 → (h * 2 ^ 64 + l) / 2 ^ k ≡ h / 2 ^ k * 2 ^ 64 + bit_or (l / 2 ^ k) (h * 2 ^ j % 2 ^ 64)
at-64 j k h l e = subst (λ z. l < 2 ^ z → (h * 2 ^ z + l) / 2 ^ k ≡ h / 2 ^ k * 2 ^ z + bit_or (l / 2 ^ k) (h * 2 ^ j % 2 ^ z)) e (two-down j k h l)

-- a bit row is shifted down by k bits word by word, where the lowest k bits of each word move into the word below it
pub three-down : (a b c k : ℕ) → k < 64 → a < 2 ^ 64 → b < 2 ^ 64 → three (bit_or (a / 2 ^ k) (b * 2 ^ (64 - k) % 2 ^ 64)) (bit_or (b / 2 ^ k) (c * 2 ^ (64 - k) % 2 ^ 64)) (c / 2 ^ k) ≡ three a b c / 2 ^ k
three-down a b c k hk ha hb =
    let e : 64 - k + k ≡ 64 = omega arith in
    search (arith, at-64, mul-add-mod_self_right, at-64 (64 - k) k (c * 2 ^ 64 + b) a e ha)

-- ---- the n lowest bits

-- two words of ones and a high word with m lowest bits set have m + 128 lowest bits set
pub three-high : (n m x : ℕ) → m + 128 ≡ n → x ≡ 2 ^ m - 1 → three (2 ^ 64 - 1) (2 ^ 64 - 1) x ≡ 2 ^ n - 1
three-high n m x e f = search (arith, pow-add, pow_pos)

-- ---- a shift up by one bit

-- the disjunction of the word b, shifted up by one bit, and of the highest bit of the word a is the sum of these
-- numbers
up-low : (b a : ℕ) → a < 2 ^ 64 → bit_or (b * 2 % 2 ^ 64) (a / 2 ^ 63) ≡ b * 2 % 2 ^ 64 + a / 2 ^ 63
up-low b a h =
    let e : b * 2 % 2 ^ 64 ≡ b % 2 ^ 63 * 2 ^ 1 = omega arith in
    let f : a / 2 ^ 63 < 2 ^ 1 = omega arith in
    cc (or_shifted (b % 2 ^ 63) 1 (a / 2 ^ 63) f)

-- a bit row is shifted up by one bit word by word, where the highest bit of each word moves into the word above it
pub three-up : (a b c : ℕ) → a < 2 ^ 64 → b < 2 ^ 64 → c < 2 ^ 64 → three (a * 2 % 2 ^ 64) (bit_or (b * 2 % 2 ^ 64) (a / 2 ^ 63)) (bit_or (c * 2 % 2 ^ 64) (b / 2 ^ 63)) ≡ three a b c * 2 % 2 ^ 192
three-up a b c ha hb hc = omega (arith, up-low)

-- if x is 2 ^ n - 1, then the bit row whose low word is x, above which all bits are 0, has its n lowest bits set
pub three-low : (n x : ℕ) → x ≡ 2 ^ n - 1 → three x 0 0 ≡ 2 ^ n - 1
three-low n x e = omega arith
