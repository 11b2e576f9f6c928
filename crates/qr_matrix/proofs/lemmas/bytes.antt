-- Bits that are gathered from bytes of 0 and 1, eight at a time.
use Rattle.qr_matrix.proofs.lemmas.bit_row.{PlaceLemmas.{has_bit-or, low-bits}, RepeatLemmas.{below-at, same-same}, SetLemmas.{shl-bit, unset-above}}
use Rattle.qr_matrix.specs.{BitRow.has_bit, Bytes.byte_of, Grid.is_same, Sums.all_below}
use Rattle.std.proofs.Common.{◌≡◌, ℕ, ◌+◌, ◌-◌, ◌*◌, ◌/◌, ◌%◌, ◌^◌, ◌<◌, ◌≤◌, [], ◌∷◌, get_or, Bool, true, false, not, ◌&&◌, ◌||◌, eqb, leb, ltb, bit_and, bit_or, refl, arith, ◌⊎◌, List, length, length-append, length-drop, slice_index_or, inl, inr}
use Rattle.std.proofs.lemmas.{Bool.{eqb-true, Decides.nat_tests}, List.{get_or-append_right, get_or_append_left, get_or-drop, get_or-take, length-take-le}}
use Rattle.std.{proofs.lemmas.Nat.and_block, specs.Int.{to_le_bytes, w64}}
use borrow.Rule.Slice.PartMut.{put_mid}

-- ---- eight bytes

-- the number of eight bytes, the first lowest
abbrev pub joined : (ℕ → ℕ) → ℕ
joined f = ((((((f 7 * 2 ^ 8 + f 6) * 2 ^ 8 + f 5) * 2 ^ 8 + f 4) * 2 ^ 8 + f 3) * 2 ^ 8 + f 2) * 2 ^ 8 + f 1) * 2 ^ 8 + f 0

-- a byte that is 0 or 1 has none of the bits of 254, computed
plain-at : ℕ → Bool
plain-at a = ltb a 2 || not (eqb (bit_and a 254) 0)

all-plain : all_below 256 plain-at ≡ true
unfolding plain-at
all-plain = refl

plain-byte : (a : ℕ) → a < 256 → bit_and a 254 ≡ 0 → a < 2
unfolding plain-at
plain-byte a l e = let h = below-at 256 plain-at all-plain a l in grind (arith, nat_tests)

-- the lowest byte and the others
peel : (a r b : ℕ) → r < 256 → bit_and (a * 2 ^ 8 + r) (b * 2 ^ 8 + 254) ≡ 0 → (bit_and a b ≡ 0) × (r < 2)
peel a r b l e = let both = and_block 8 a b r 254 l (omega arith) in
    search (arith, plain-byte)

-- eight bytes of which none has a bit of 254 are 0 or 1
pub plain-bytes : (f : ℕ → ℕ) → ((k : ℕ) → f k < 256) → bit_and (joined f) 0xFEFEFEFEFEFEFEFE ≡ 0
    → (f 0 < 2) × (f 1 < 2) × (f 2 < 2) × (f 3 < 2) × (f 4 < 2) × (f 5 < 2) × (f 6 < 2) × (f 7 < 2)
plain-bytes f l e =
    let p0 = peel ((((((f 7 * 2 ^ 8 + f 6) * 2 ^ 8 + f 5) * 2 ^ 8 + f 4) * 2 ^ 8 + f 3) * 2 ^ 8 + f 2) * 2 ^ 8 + f 1) (f 0) 0xFEFEFEFEFEFEFE (l 0) e in
    let p1 = peel (((((f 7 * 2 ^ 8 + f 6) * 2 ^ 8 + f 5) * 2 ^ 8 + f 4) * 2 ^ 8 + f 3) * 2 ^ 8 + f 2) (f 1) 0xFEFEFEFEFEFE (l 1) p0.0 in
    let p2 = peel ((((f 7 * 2 ^ 8 + f 6) * 2 ^ 8 + f 5) * 2 ^ 8 + f 4) * 2 ^ 8 + f 3) (f 2) 0xFEFEFEFEFE (l 2) p1.0 in
    let p3 = peel (((f 7 * 2 ^ 8 + f 6) * 2 ^ 8 + f 5) * 2 ^ 8 + f 4) (f 3) 0xFEFEFEFE (l 3) p2.0 in
    let p4 = peel ((f 7 * 2 ^ 8 + f 6) * 2 ^ 8 + f 5) (f 4) 0xFEFEFE (l 4) p3.0 in
    let p5 = peel (f 7 * 2 ^ 8 + f 6) (f 5) 0xFEFE (l 5) p4.0 in
    search (arith, plain-byte, peel (f 7) (f 6) 254 (l 6) p5.0)

-- ---- their bits

-- bit k of b as a number
digit : ℕ → ℕ → ℕ
digit b k = b / 2 ^ k % 2

-- the highest byte of the product
abbrev pub gathered : ℕ → ℕ
gathered n = n * 0x0102040810204080 % 2 ^ 64 / 2 ^ 56

-- it has the bits of b, if byte k is bit k of b
gather-at : ℕ → ℕ → Bool
gather-at b k = is_same (has_bit (gathered (joined (digit b))) k) (eqb (digit b k) 1)

-- an item of a list of eight
item : (f : ℕ → ℕ) (k : ℕ) → k < 8 → get_or (f 0 ∷ f 1 ∷ f 2 ∷ f 3 ∷ f 4 ∷ f 5 ∷ f 6 ∷ f 7 ∷ []) k 0 ≡ f k
item f k l = grind arith

-- each byte is that of its bit
pub gathered-bits : (f : ℕ → ℕ) → (f 0 < 2) × (f 1 < 2) × (f 2 < 2) × (f 3 < 2) × (f 4 < 2) × (f 5 < 2) × (f 6 < 2) × (f 7 < 2)
    → (k : ℕ) → k < 8 → f k ≡ byte_of (has_bit (gathered (joined f)) k)
unfolding gather-at digit has_bit
gathered-bits f s k l =
    let b = f 0 + 2 * f 1 + 4 * f 2 + 8 * f 3 + 16 * f 4 + 32 * f 5 + 64 * f 6 + 128 * f 7 in
    let small : b < 256 = omega (arith, s) in
    let e0 : digit b 0 ≡ f 0 = omega (arith, s) in
    let e1 : digit b 1 ≡ f 1 = omega (arith, s) in
    let e2 : digit b 2 ≡ f 2 = omega (arith, s) in
    let e3 : digit b 3 ≡ f 3 = omega (arith, s) in
    let e4 : digit b 4 ≡ f 4 = omega (arith, s) in
    let e5 : digit b 5 ≡ f 5 = omega (arith, s) in
    let e6 : digit b 6 ≡ f 6 = omega (arith, s) in
    let e7 : digit b 7 ≡ f 7 = omega (arith, s) in
    let whole : joined (digit b) ≡ joined f = omega (arith, e0, e1, e2, e3, e4, e5, e6, e7) in
    let one : digit b k ≡ f k = cc (item (digit b) k l, item f k l) in
    search (arith, same-same, below-at)

-- ---- words

-- the bits of n that are put into a word from bit c on
pub put-bits : (word n c k : ℕ) → k < 64 → has_bit (bit_or word (n * 2 ^ c % 2 ^ 64)) k ≡ (has_bit word k || leb c k && has_bit n (k - c))
put-bits word n c k l = search (arith, has_bit-or, low-bits, shl-bit)

-- a bit before those that are put stays
pub bit-before : (c k : ℕ) (old new put : Bool) → k < c → new ≡ (old || leb c k && put) → new ≡ old
bit-before c k old new put l e = grind (arith, nat_tests)

-- from bit c on, where none was set, the bits are those that are put
pub bit-after : (c k : ℕ) (old new put : Bool) → c ≤ k → old ≡ false → new ≡ (old || leb c k && put) → new ≡ put
bit-after c k old new put l e f = grind (arith, nat_tests)

-- a number of eight bits has none from bit 8 on
pub past-eight : (n k : ℕ) → n < 256 → 8 ≤ k → has_bit n k ≡ false
past-eight n k l m = unset-above n 8 k l m

-- ---- rows

-- a test in a column of the row
pub read-there : (c side : ℕ) (read test : Bool) → c < side → read ≡ (ltb c side && test) → read ≡ test
read-there c side read test l e = grind (arith, nat_tests)

-- Bits that are spread over bytes, and some bytes of a buffer that are written at once.

-- ---- eight bits

-- the word of eight bytes into which the bits b are spread
abbrev pub spread : ℕ → ℕ
spread b = bit_and ((bit_and (b * 0x0101010101010101 % 2 ^ 64) 0x8040201008040201 + 0x7F7F7F7F7F7F7F7F) % 2 ^ 64 / 2 ^ 7) 0x0101010101010101

-- byte k is that of bit k
spread-at : ℕ → ℕ → Bool
spread-at b k = eqb (get_or (to_le_bytes w64 (spread b)) k 0) (byte_of (has_bit b k))

-- for all bits, computed
all-spread : all_below 256 (λ b. all_below 8 (spread-at b)) ≡ true
unfolding spread-at has_bit
all-spread = refl

-- each byte is that of its bit
pub spread-bytes : (b k : ℕ) → b < 256 → k < 8 → get_or (to_le_bytes w64 (spread b)) k 0 ≡ byte_of (has_bit b k)
unfolding spread-at
spread-bytes b k l m = eqb-true _ _ (below-at 8 (spread-at b) (below-at 256 (λ b. all_below 8 (spread-at b)) all-spread b l) k m)

-- ---- some bytes that are written at once

module _ (a k : ℕ) (xs ys : List ℕ) (room : a + k ≤ length xs) (many : length ys ≡ k) where
  -- the number of bytes stays the same
  pub part-long : length (put_mid a k xs ys) ≡ length xs
  part-long = search (arith, length-append, length-take-le, length-drop)

  -- the bytes of the part are those that were written
  pub part-here : (j : ℕ) → j < k → slice_index_or (put_mid a k xs ys) (a + j) 0 ≡ slice_index_or ys j 0
  part-here j l = search (arith, get_or-append_right, length-take-le, get_or_append_left)

  -- the bytes outside the part stay the same
  pub part-others : (i : ℕ) → (i < a) ⊎ (a + k ≤ i) → slice_index_or (put_mid a k xs ys) i 0 ≡ slice_index_or xs i 0
  part-others i (inl l) = search (arith, get_or_append_left, length-take-le, get_or-take)
  part-others i (inr l) = search (arith, get_or-append_right, length-take-le, get_or-drop)
