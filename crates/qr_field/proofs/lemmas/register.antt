-- Coefficients packed into one number, and a register of them.
use Rattle.std.proofs.Common.{◌≡◌, ℕ, zero, suc, ◌+◌, ◌*◌, ◌/◌, ◌%◌, ◌^◌, ◌<◌, ◌≤◌, List, [], ◌∷◌, ◌++◌, length, take, drop, get_or, refl, sym, ap, ◌∙◌, arith, lit<, bit_xor, bit_or, bit_and}
use Rattle.std.proofs.lemmas.Nat.{or_shifted, xor_block, xor_mod, xor_shr, and_block, and_mask, mod_low, shr_high}
use Rattle.std.proofs.{Math.Nat.{pow-suc, mul_assoc, mul_comm, div-div-eq-div-mul}, lemmas.List.Elements.{All-nil, All-cons, All-head, All-tail}}
use Rattle.std.proofs.lemmas.List.{append-nil, drop_all, get_or-map, length-append, length-drop, length-map, length-take, map-append, take-append-drop, take_at}
use Rattle.std.specs.{List.All, Int.{byte_at, bytes_low_first, to_le_bytes, w64, w128, Bits.{xor_zero_l, xor_zero_r, xor_self, and_zero_r}}}
use borrow.Rule.Slice.PartMut.{put_mid}
use Rattle.qr_field.specs.{Galois.product, Polynomial.{IsByte, plus, scaled, zeros}, Steps.Register.{packed, unpacked}}
use Rattle.qr_field.proofs.lemmas.{galois.ByteLemmas.{product-of_zero, product-by_zero, product-of_two}, polynomial.ListLemmas.bytes-scaled}

-- ---- two halves of a register

-- the register moved down by one byte
pub halves-rest : (low high : ℕ) → low < 2 ^ 128 → high < 2 ^ 128 →
    high / 2 ^ 8 * 2 ^ 128 + bit_or ((high * 2 ^ 120) % 2 ^ 128) (low / 2 ^ 8) ≡ (high * 2 ^ 128 + low) / 2 ^ 8
halves-rest low high l h = search (arith, or_shifted (high % 2 ^ 8) 120 (low / 2 ^ 8) (omega arith))

-- ---- packed coefficients

-- a sum of packed coefficients
pub packed-plus : (xs ys : List ℕ) → All IsByte xs → All IsByte ys →
    packed (plus xs ys) ≡ bit_xor (packed xs) (packed ys)
packed-plus [] ys a b = sym (xor_zero_l (packed ys))
packed-plus (x ∷ xs) [] a b = sym (xor_zero_r (packed (x ∷ xs)))
packed-plus (x ∷ xs) (y ∷ ys) a b =
    search (arith, All-tail, xor_block, All-head, packed-plus xs ys (All-tail IsByte x xs a) (All-tail IsByte y ys b))

-- a zero at the end
pub packed-zero_last : (xs : List ℕ) → packed (xs ++ 0 ∷ []) ≡ packed xs
packed-zero_last [] = refl
packed-zero_last (x ∷ xs) = ap (λ t. t * 2 ^ 8 + x) (packed-zero_last xs)

-- the first coefficient of packed coefficients
pub packed-first : (xs : List ℕ) (r : ℕ) → 1 ≤ length xs → All IsByte xs → packed xs % 2 ^ 8 ≡ get_or xs 0 r
packed-first [] r l a = absurd (omega arith)
packed-first (x ∷ xs) r l a = mod_low (packed xs) 8 x (All-head IsByte x xs a)

-- packed coefficients that are unpacked are the same coefficients
pub unpacked-packed : (n : ℕ) (xs : List ℕ) → length xs ≡ n → All IsByte xs → unpacked n (packed xs) ≡ xs
unfolding unpacked
unpacked-packed zero [] e a = refl
unpacked-packed zero (x ∷ xs) e a = absurd (omega arith)
unpacked-packed (suc n) [] e a = absurd (omega arith)
unpacked-packed (suc n) (x ∷ xs) e a =
    search (arith, All-head, mod_low, shr_high, All-tail, unpacked-packed n xs (omega arith) (All-tail IsByte x xs a))

-- what is unpacked are bytes
pub bytes-unpacked : (n v : ℕ) → All IsByte (unpacked n v)
unfolding unpacked
bytes-unpacked zero v = All-nil IsByte
bytes-unpacked (suc n) v = search (arith, All-cons, bytes-unpacked n (v / 2 ^ 8))

-- how many coefficients are unpacked
pub length-unpacked : (n v : ℕ) → length (unpacked n v) ≡ n
unfolding unpacked
length-unpacked zero v = refl
length-unpacked (suc n) v = ap suc (length-unpacked n (v / 2 ^ 8))

-- coefficients that are unpacked and packed are the same number
pub packed-unpacked : (n v : ℕ) → v < 256 ^ n → packed (unpacked n v) ≡ v
unfolding unpacked
packed-unpacked zero v l = omega arith
packed-unpacked (suc n) v l =
    omega (arith, packed-unpacked n (v / 2 ^ 8) (omega (arith, pow-suc 256 n)))

-- packed coefficients after others
packed-append : (xs ys : List ℕ) → packed (xs ++ ys) ≡ packed ys * 256 ^ length xs + packed xs
packed-append [] ys = omega arith
packed-append (x ∷ xs) ys =
    let q = 256 ^ length xs in
    omega (arith, (ap (λ t. packed ys * t) (pow-suc 256 (length xs)) ∙ sym (mul_assoc (packed ys) q 256)), packed-append xs ys)

-- the coefficients of a lower half, and after them those of an upper half
unpacked-halves : (k m h l : ℕ) → l < 256 ^ k → unpacked k l ++ unpacked m h ≡ unpacked (k + m) (h * 256 ^ k + l)
unfolding unpacked
unpacked-halves zero m h l s = search arith
unpacked-halves (suc k) m h l s =
    let count : suc k + m ≡ suc (k + m) = omega arith in
    let q = 256 ^ k in
    let more : h * 256 ^ suc k ≡ h * q * 256 = ap (λ t. h * t) (pow-suc 256 k) ∙ sym (mul_assoc h q 256) in
    search (arith, unpacked-halves k m h (l / 2 ^ 8) (omega (arith, pow-suc 256 k)))

-- the bytes of a number are its coefficients
bytes-of : (i k v : ℕ) → bytes_low_first i k v ≡ unpacked k (v / 256 ^ i)
unfolding unpacked
bytes-of i zero v = refl
bytes-of i (suc k) v = search (arith, pow-suc, div-div-eq-div-mul, bytes-of (suc i) k v)

-- the first of some coefficients
pub take-unpacked : (n k v : ℕ) → n ≤ k → take n (unpacked k v) ≡ unpacked n v
unfolding unpacked
take-unpacked zero k v l = refl
take-unpacked (suc n) zero v l = absurd (omega arith)
take-unpacked (suc n) (suc k) v l = cc (take-unpacked n k (v / 2 ^ 8) (omega arith))

-- the bytes of a word
pub word-bytes : (v : ℕ) → to_le_bytes w64 v ≡ unpacked 8 v
word-bytes v =
    bytes-of 0 8 v ∙ ap (unpacked 8) (omega arith)

-- the bytes of a half
half-bytes : (v : ℕ) → to_le_bytes w128 v ≡ unpacked 16 v
half-bytes v =
    bytes-of 0 16 v ∙ ap (unpacked 16) (omega arith)

-- the coefficients of an upper half are written after those of the lower half, in place of other numbers
pub joined-halves : (k h l : ℕ) (lower upper others : List ℕ) → l < 256 ^ k → lower ≡ unpacked k l → upper ≡ unpacked k h →
    length others ≡ k → put_mid k k (lower ++ others) upper ≡ unpacked (k + k) (h * 256 ^ k + l)
joined-halves k h l lower upper others s el eu n =
    search (arith, length-unpacked, take_at, drop_all, length-drop, length-append, append-nil, unpacked-halves)

-- the coefficients of an upper half, packed after those of the lower half
pub packed-halves : (k : ℕ) (bs : List ℕ) → k ≤ length bs →
    packed (drop k bs) * 256 ^ k + packed (take k bs) ≡ packed bs
packed-halves k bs l =
    let count : length (take k bs) ≡ k = omega (arith, length-take k bs) in
    cc (packed-append (take k bs) (drop k bs), take-append-drop k bs, count)

-- zeros are packed into 0
pub packed-zeros : (n : ℕ) → 0 ≡ packed (zeros n)
packed-zeros zero = refl
packed-zeros (suc n) = ap (λ t. t * 2 ^ 8 + 0) (packed-zeros n)

-- zeros after coefficients
pub packed-filled : (xs : List ℕ) (n k : ℕ) → packed (xs ++ drop n (zeros k)) ≡ packed xs
packed-filled xs n k =
    let q = 256 ^ length xs in
    packed-append xs (drop n (zeros k)) ∙ (ap (λ t. t * q + packed xs) (dropped n k) ∙ (omega arith))
  where
    dropped : (n k : ℕ) → packed (drop n (zeros k)) ≡ 0
    dropped zero k = sym (packed-zeros k)
    dropped (suc n) zero = refl
    dropped (suc n) (suc k) = dropped n k

-- a multiple by 0
pub packed-none : (g : List ℕ) → All IsByte g → packed (scaled 0 g) ≡ 0
packed-none [] a = refl
packed-none (x ∷ g) a = search (arith, product-of_zero, All-head, All-tail, packed-none g (All-tail IsByte x g a))

-- ---- doubled coefficients

-- the byte b in each of k bytes
abbrev pub repeated : ℕ → ℕ → ℕ
repeated zero b = 0
repeated (suc k) b = repeated k b * 2 ^ 8 + b

-- the coefficients of x, doubled all at once
pub doubled-packed : (k x : ℕ) →
    bit_xor (bit_and x (repeated k 127) * 2) (bit_and (x / 2 ^ 7) (repeated k 1) * 29) ≡ packed (scaled 2 (unpacked k x))
unfolding unpacked
doubled-packed zero x = cc (and_zero_r x, and_zero_r (x / 2 ^ 7), xor_self 0)
doubled-packed (suc k) x =
    let p = x / 2 ^ 8 in
    let b = x % 2 ^ 8 in
    let r = x / 2 ^ 7 % 2 ^ 8 in
    let low = bit_and p (repeated k 127) in
    let top = bit_and (p / 2 ^ 7) (repeated k 1) in
    let whole : x ≡ p * 2 ^ 8 + b = omega arith in
    let moved : x / 2 ^ 7 ≡ p / 2 ^ 7 * 2 ^ 8 + r = omega arith in
    let others : bit_and x (repeated (suc k) 127) ≡ low * 2 ^ 8 + b % 2 ^ 7 =
    cc (whole, and_block 8 p (repeated k 127) b 127 (omega arith) (omega arith), and_mask b 7) in
    let last : r % 2 ^ 1 ≡ b / 2 ^ 7 = omega arith in
    let highest : bit_and (x / 2 ^ 7) (repeated (suc k) 1) ≡ top * 2 ^ 8 + b / 2 ^ 7 =
    cc (moved, and_block 8 (p / 2 ^ 7) (repeated k 1) r 1 (omega arith) (omega arith), and_mask r 1) in
    search (arith, product-of_two, doubled-packed k p, xor_block 8 (low * 2) (top * 29) (b % 2 ^ 7 * 2) (b / 2 ^ 7 * 29) (omega arith) (omega arith))

-- doubled halves are halves of doubled coefficients
pub doubled-halves : (k h l : ℕ) → l < 256 ^ k →
    packed (scaled 2 (unpacked k h)) * 256 ^ k + packed (scaled 2 (unpacked k l))
    ≡ packed (scaled 2 (unpacked (k + k) (h * 256 ^ k + l)))
doubled-halves k h l s =
    search (arith, length-map, length-unpacked, packed-append, map-append, unpacked-halves k k h l s)

-- coefficients that are packed and unpacked have the same multiples
pub scaled-unpacked : (f n : ℕ) (xs : List ℕ) → f < 256 → length xs ≤ n → All IsByte xs →
    packed (scaled f (unpacked n (packed xs))) ≡ packed (scaled f xs)
unfolding unpacked
scaled-unpacked f zero [] m l a = refl
scaled-unpacked f zero (x ∷ xs) m l a = absurd (omega arith)
scaled-unpacked f (suc n) [] m l a = cc (product-by_zero f m, scaled-unpacked f n [] m (omega arith) a)
scaled-unpacked f (suc n) (x ∷ xs) m l a =
    search (arith, mod_low, All-head, shr_high, All-tail, scaled-unpacked f n xs m (omega arith) (All-tail IsByte x xs a))

-- ---- bytes

-- byte k + 1 is byte k of what is left without the lowest byte
byte-next : (k n : ℕ) → byte_at (suc k) n ≡ byte_at k (n / 2 ^ 8)
byte-next zero n = refl
byte-next (suc k) n = search (arith, pow-suc, mul_comm, div-div-eq-div-mul)

-- a byte of a sum
pub byte-xor : (k a b : ℕ) → byte_at k (bit_xor a b) ≡ bit_xor (byte_at k a) (byte_at k b)
byte-xor zero a b = xor_mod a b 8
byte-xor (suc k) a b =
    cc (byte-next k (bit_xor a b), xor_shr a b 8, byte-xor k (a / 2 ^ 8) (b / 2 ^ 8), byte-next k a, byte-next k b)

-- what is unpacked are the bytes
unpacked-at : (n k v : ℕ) → k < n → get_or (unpacked n v) k 0 ≡ byte_at k v
unfolding unpacked
unpacked-at zero k v l = absurd (omega arith)
unpacked-at (suc n) zero v l = refl
unpacked-at (suc n) (suc k) v l = unpacked-at n k (v / 2 ^ 8) (omega arith) ∙ sym (byte-next k v)

-- the bytes of a word as a list
pub word-byte : (k v : ℕ) → k < 16 → get_or (to_le_bytes w128 v) k 0 ≡ byte_at k v
word-byte k v l = cc (half-bytes v, unpacked-at 16 k v l)

-- if each byte of r is the double of that of v, the coefficients of r are those of v, doubled
unpacked-doubled : (n v r : ℕ) → ((k : ℕ) → k < n → byte_at k r ≡ product 2 (byte_at k v)) → unpacked n r ≡ scaled 2 (unpacked n v)
unfolding unpacked
unpacked-doubled zero v r is = refl
unpacked-doubled (suc n) v r is =
    cc (is 0 (omega arith), unpacked-doubled n (v / 2 ^ 8) (r / 2 ^ 8) (λ k l. sym (byte-next k r) ∙ (is (suc k) (omega arith) ∙ ap (product 2) (byte-next k v))))

-- the doubled bytes of a half
pub bytes-doubled : (v r : ℕ) → r < 2 ^ 128 → ((k : ℕ) → k < 16 → byte_at k r ≡ product 2 (byte_at k v)) → r ≡ packed (scaled 2 (unpacked 16 v))
bytes-doubled v r small is = cc (packed-unpacked 16 r small, unpacked-doubled 16 v r is)

-- the bytes of doubled coefficients
pub byte-doubled : (k v r : ℕ) → k < 16 → r ≡ packed (scaled 2 (unpacked 16 v)) → byte_at k r ≡ product 2 (byte_at k v)
byte-doubled k v r l e =
    let doubled = scaled 2 (unpacked 16 v) in
    let count : length doubled ≡ 16 = length-map (unpacked 16 v) (product 2) ∙ length-unpacked 16 v in
    let same : unpacked 16 r ≡ doubled =
    ap (unpacked 16) e ∙ unpacked-packed 16 doubled count (bytes-scaled 2 (unpacked 16 v) (lit< tt)) in
    cc (unpacked-at 16 k r l, get_or-map (product 2) (unpacked 16 v) k 0 0 (omega (arith, l, length-unpacked 16 v)), unpacked-at 16 k v l)
