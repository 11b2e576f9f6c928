-- Up to 16 bits at any place are a part of three bytes, taken as one number.
use Rattle.std.proofs.Common.{◌≡◌, ℕ, zero, suc, ◌+◌, ◌-◌, ◌*◌, ◌/◌, ◌%◌, ◌^◌, ◌<◌, ◌≤◌, Bool, List, [], ◌∷◌, ◌++◌, length, get_or, take, drop, refl, arith, append_assoc}
use Rattle.std.proofs.lemmas.{List.{drop-drop, drop-append-le, take-append-le, get_or-drop, length-drop}, Nat.{pow-add, pow_pos, shr_split}}
use Rattle.std.proofs.Math.Nat.{mod-lt, div-div-eq-div-mul}
use Rattle.qr_bits.specs.{Parsing.bytes_of, Bits.{field, value, bits_of}}
use Rattle.qr_bits.proofs.lemmas.{bits.BitLemmas.{bits_of-append, field-join, field-low, length-bits_of}, stream.StreamLemmas.{drop-field, read-field}}

field-split : (a b n : ℕ) → field (a + b) n ≡ field a (n / 2 ^ b) ++ field b n
unfolding field
field-split a b n = cc (field-join a b (n / 2 ^ b) (n % 2 ^ b) (mod-lt n (pow_pos b)), shr_split n b, field-low b n)

-- the bits after whole bytes are the bits of the bytes after them
bits_of-drop : (q : ℕ) (bs : List ℕ) → drop (8 * q) (bits_of bs) ≡ bits_of (drop q bs)
unfolding bits_of
bits_of-drop zero bs = refl
bits_of-drop (suc q) [] =
    let more : 8 * suc q ≡ suc (7 + 8 * q) = omega arith in
    rw more refl
bits_of-drop (suc q) (b ∷ bs) =
    let more : 8 * suc q ≡ 8 + 8 * q = omega arith in
    rw more (cc (drop-drop (8 * q) 8 (bits_of (b ∷ bs)), drop-field 8 b (bits_of bs), bits_of-drop q bs))

-- with zeros behind it, a list begins with three elements
three : (bs : List ℕ) → (rest : List ℕ) × (bs ++ 0 ∷ 0 ∷ 0 ∷ [] ≡ get_or bs 0 0 ∷ get_or bs 1 0 ∷ get_or bs 2 0 ∷ rest)
three [] = ([], refl)
three (a ∷ []) = (0 ∷ [], refl)
three (a ∷ b ∷ []) = (0 ∷ 0 ∷ [], refl)
three (a ∷ b ∷ c ∷ bs) = (bs ++ 0 ∷ 0 ∷ 0 ∷ [], refl)

-- the bits of three bytes are those of one number of 24 bits
three-bytes : (x y z : ℕ) (rest : List ℕ) → y < 256 → z < 256 → bits_of (x ∷ y ∷ z ∷ rest) ≡ field 24 (65536 * x + (256 * y + z)) ++ bits_of rest
unfolding bits_of
three-bytes x y z rest h k =
    let low : 256 * y + z ≡ y * 2 ^ 8 + z = omega arith in
    let all : 65536 * x + (256 * y + z) ≡ x * 2 ^ 16 + (256 * y + z) = omega arith in
    cc (field-join 8 8 y z k, field-join 8 16 x (256 * y + z) (omega arith), append_assoc (field 8 x) (field 16 (256 * y + z)) (bits_of rest), append_assoc (field 8 y) (field 8 z) (bits_of rest))

-- the `w` bits of a number that come before its last `c` bits are a remainder of a quotient
window : (r w c n : ℕ) (rest : List Bool) → r + w + c ≡ 24 → value (take w (drop r (field 24 n ++ rest))) ≡ n / 2 ^ c % 2 ^ w
window r w c n rest e =
    let m = n / 2 ^ c in
    let whole : r + (w + c) ≡ 24 = omega arith in
    let split : field 24 n ≡ field r (n / 2 ^ (w + c)) ++ (field w (m % 2 ^ w) ++ field c n) = search (arith, field-split, field-low) in
    search (arith, append_assoc, drop-field, read-field, mod-lt, pow_pos)

-- the number of w bits from i on, of which c bits of three bytes are left
pub value-window : (bs : List ℕ) (i w c n : ℕ) → i + w ≤ 8 * length bs → i % 8 + w + c ≡ 24
    → get_or bs (i / 8 + 1) 0 < 256 → get_or bs (i / 8 + 2) 0 < 256 → n ≡ 65536 * get_or bs (i / 8) 0 + (256 * get_or bs (i / 8 + 1) 0 + get_or bs (i / 8 + 2) 0)
    → value (take w (drop i (bits_of bs))) ≡ n / 2 ^ c % 2 ^ w
value-window bs i w c n inside e h k is =
    let q = i / 8 in
    let r = i % 8 in
    let xs = drop q bs in
    let zeros : List ℕ = 0 ∷ 0 ∷ 0 ∷ [] in
    let t = three xs in
    let none : q + 0 ≡ q = omega arith in
    let same : (get_or xs 0 0 ≡ get_or bs q 0) × (get_or xs 1 0 ≡ get_or bs (q + 1) 0) × (get_or xs 2 0 ≡ get_or bs (q + 2) 0) =
    search (arith, get_or-drop) in
    let first : bits_of xs ++ bits_of zeros ≡ field 24 n ++ bits_of t.0 =
    cc (bits_of-append xs zeros, three-bytes (get_or xs 0 0) (get_or xs 1 0) (get_or xs 2 0) t.0 (rw same.1 h) (rw same.2 k)) in
    let len : length (bits_of xs) ≡ 8 * length bs - 8 * q = omega (arith, length-bits_of xs, length-drop q bs) in
    let split : 8 * q + r ≡ i = omega arith in
    let whole : drop i (bits_of bs) ≡ drop r (bits_of xs) = cc (drop-drop r (8 * q) (bits_of bs), bits_of-drop q bs) in
    let padded : drop r (bits_of xs ++ bits_of zeros) ≡ drop r (bits_of xs) ++ bits_of zeros = drop-append-le r (bits_of xs) (bits_of zeros) (omega arith) in
    let taken : take w (drop r (bits_of xs) ++ bits_of zeros) ≡ take w (drop r (bits_of xs)) = search (arith, take-append-le, bits_of, length-drop) in
    cc (window r w c n (bits_of t.0) e)

-- eight bits lie in two bytes
pub byte-window : (bs : List ℕ) (i c n : ℕ) → i + 8 ≤ 8 * length bs → i % 8 + c ≡ 8 → get_or bs (i / 8 + 1) 0 < 256 → get_or bs (i / 8 + 2) 0 < 256
    → n ≡ 256 * get_or bs (i / 8) 0 + get_or bs (i / 8 + 1) 0 → value (take 8 (drop i (bits_of bs))) ≡ n / 2 ^ c % 256
byte-window bs i c n inside e h k is =
    let m = 256 * n + get_or bs (i / 8 + 2) 0 in
    let two : m / 2 ^ 8 ≡ n = omega arith in
    search (arith, value-window bs i 8 (8 + c) m, pow-add, div-div-eq-div-mul)

-- one more byte is read
pub bytes_of-more : (n : ℕ) (bits : List Bool) → bytes_of (n + 1) bits ≡ bytes_of n bits ++ value (take 8 (drop (8 * n) bits)) ∷ []
unfolding bytes_of
bytes_of-more zero bits = refl
bytes_of-more (suc n) bits =
    let one : suc n + 1 ≡ suc (n + 1) = omega arith in
    let more : 8 * suc n ≡ 8 + 8 * n = omega arith in
    cc (bytes_of-more n (drop 8 bits), drop-drop (8 * n) 8 bits)
