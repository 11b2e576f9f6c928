-- Further bits after the bits of a number, and the codewords that they fill.
use Rattle.std.proofs.Common.{◌≡◌, ℕ, zero, suc, ◌+◌, ◌-◌, ◌*◌, ◌/◌, ◌%◌, ◌^◌, ◌<◌, ◌≤◌, Bool, true, false, cond, not, ◌||◌, Result, None, Some, List, ◌++◌, length, length-append, take, refl, sym, ◌∙◌, ap, append_assoc, arith}
use Rattle.std.proofs.{lemmas.{List.Elements.{All-append, All-take}, Nat.{pow-add, pow_pos, shr-shr, shr_split}}, Math.Nat.{div-div-eq-div-mul, mod-eq_of_lt, mod-lt, mul-div_cancel, pow-le-pow_right, pow-suc}}
use Rattle.std.specs.Result.{OnErr, is_err}
use Rattle.std.specs.{Int.{byte_at, bytes_high_first, to_be_bytes, w64}, List.All}
use Rattle.qr_bits.{proofs.Facts.{bits_of-append, field-join, field-low, length-bits_of, length-field}, specs.Bits.{bits_of, field}}
use Rattle.qr_symbol.specs.Steps.Words.{Appends}

-- ---- numbers

-- a number of w bits, and c bits after it, make a number of w + c bits
joined-below : (w c r b : ℕ) → r < 2 ^ w → b < 2 ^ c → r * 2 ^ c + b < 2 ^ (w + c)
joined-below w zero r b h l = search arith
joined-below w (suc c) r b h l =
    let two : 2 ^ suc c ≡ 2 * 2 ^ c = omega (arith, pow-suc 2 c) in
    let whole : r * 2 ^ suc c ≡ 2 * (r * 2 ^ c) = ap (λ (z : ℕ). r * z) two ∙ omega arith in
    let e : w + suc c ≡ suc (w + c) = omega arith in
    search (arith, pow-suc, joined-below w c r (b / 2) h (omega (arith, two, l)))

-- the same, for at most k bits
pub joined-small : (w c r b k : ℕ) → r < 2 ^ w → b < 2 ^ c → w + c ≤ k → r * 2 ^ c + b < 2 ^ k
joined-small w c r b k h l m = omega (arith, joined-below w c r b h l, pow-le-pow_right {n = 2} (omega arith) m)

-- shifting a number of less than eight bits by at most 56 loses no bit of 64
pub joined-whole : (w c r : ℕ) → r < 2 ^ w → w < 8 → c ≤ 56 → r * 2 ^ c % 18446744073709551616 ≡ r * 2 ^ c
joined-whole w c r h l m = mod-eq_of_lt (omega (arith, joined-small w c r 0 63 h (pow_pos c) (omega arith)))

-- ---- bits

-- the bits of a number are those before its last b bits, followed by these
field-cut : (a b n : ℕ) → field (a + b) n ≡ field a (n / 2 ^ b) ++ field b (n % 2 ^ b)
field-cut a b n = ap (λ z. field (a + b) z) (sym (shr_split n b)) ∙ field-join a b (n / 2 ^ b) (n % 2 ^ b) (mod-lt n (pow_pos b))

-- ---- the bytes of a word

-- the numbers that k bytes can have are as many as those of their bits
pow-mul : (k : ℕ) → 256 ^ k ≡ 2 ^ (8 * k)
pow-mul zero = refl
pow-mul (suc k) =
    let f : 8 * suc k ≡ 8 + 8 * k = omega arith in
    search (arith, pow-suc, pow-add, pow-mul k)

byte-is : (i v : ℕ) → byte_at i v ≡ v / 256 ^ i % 256
byte-is i v = grind arith

-- bytes are below 256
bytes-small : (k v : ℕ) → All (λ x. x < 256) (bytes_high_first k v)
bytes-small zero v = λ i d l. absurd (omega arith)
bytes-small (suc k) v = search (arith, byte-is, bytes-small k v)

-- the bits of the first n bytes are those of the number before the k bytes after them
first-bytes : (n k v : ℕ) → bits_of (take n (bytes_high_first (n + k) v)) ≡ field (8 * n) (v / 256 ^ k)
unfolding bits_of field
first-bytes zero k v = refl
first-bytes (suc n) k v =
    let y = v / 256 ^ k in
    let e : suc n + k ≡ suc (n + k) = omega arith in
    let f : 8 * suc n ≡ 8 + 8 * n = omega arith in
    let g : k + n ≡ n + k = omega arith in
    cc (pow-mul n, div-div-eq-div-mul v (256 ^ k) (256 ^ n), pow-add 256 k n, byte-is (n + k) v, field-low 8 (v / 256 ^ (n + k)), first-bytes n k v, field-low (8 * n) y, field-cut 8 (8 * n) y)

-- a number of w bits that is shifted to the upper end of a word
shifted-whole : (w x : ℕ) → x < 2 ^ w → w ≤ 64 → x * 2 ^ (64 - w) % 18446744073709551616 ≡ x * 2 ^ (64 - w)
shifted-whole w x h l = mod-eq_of_lt (omega (arith, joined-small w (64 - w) x 0 64 h (pow_pos (64 - w)) (omega arith)))

-- of this word the first bytes have all bits of the number but the last that fill no byte
first-codewords : (w x : ℕ) → x < 2 ^ w → w ≤ 64 → bits_of (take (w / 8) (to_be_bytes w64 (x * 2 ^ (64 - w) % 18446744073709551616))) ++ field (w % 8) (x % 2 ^ (w % 8)) ≡ field w x
first-codewords w x h l =
    let n = w / 8 in let k = 8 - n in let left = w % 8 in
    let e : 8 ≡ n + k = omega arith in
    let g : 8 * n + left ≡ w = omega arith in
    let v = x * 2 ^ (64 - w) in
    let cut : v / 256 ^ k ≡ x / 2 ^ left =
    ap (λ z. v / z) (pow-mul k) ∙ (ap (λ z. v / 2 ^ z) (omega arith) ∙ (sym (shr-shr v (64 - w) left) ∙ ap (λ z. z / 2 ^ left) (mul-div_cancel x (pow_pos (64 - w))))) in
    cc (shifted-whole w x h l, first-bytes n k v, field-cut (8 * n) left x)

-- the codewords that further bits fill, and the bits after them, are the bits before and the further ones
pub codewords-joined : (xs : List ℕ) (w c r b : ℕ) → r < 2 ^ w → w < 8 → c ≤ 56 → let x = r * 2 ^ c + b % 2 ^ c in
    bits_of (xs ++ take ((w + c) / 8) (to_be_bytes w64 (x * 2 ^ (64 - (w + c)) % 18446744073709551616))) ++ field ((w + c) % 8) (x % 2 ^ ((w + c) % 8))
    ≡ (bits_of xs ++ field w r) ++ field c b
codewords-joined xs w c r b h l m =
    search (arith, mod-lt, pow_pos, bits_of-append, append_assoc, bits_of, first-codewords, joined-below, field-join, field-low)

-- these codewords are bytes
pub codewords-small : (ok : Bool) (xs ys bytes : List ℕ) (n v : ℕ) → bytes ≡ to_be_bytes w64 v → ys ≡ cond ok (xs ++ take n bytes) xs → All (λ x. x < 256) xs → All (λ x. x < 256) ys
codewords-small true xs ys bytes n v b e a = rw (e, b) (All-append (λ x. x < 256) xs _ a (All-take (λ x. x < 256) n _ (bytes-small 8 v)))
codewords-small false xs ys bytes n v b e a = rw e a

-- ---- a collector

-- fewer bits fill no more codewords
filled-less : (xs more : List Bool) (room : ℕ) → length (xs ++ more) / 8 ≤ room → length xs / 8 ≤ room
filled-less xs more room h = omega (arith, length-append xs more)

-- bits are added to those of a collector
pub added : (was : Bool) (old new more : List Bool) (had : ℕ) → new ≡ old ++ more
    → Appends more (record { bits = cond was None (Some old); room = had }) (record { bits = cond was None (Some new); room = had })
added true old new more had e room xs i = record { bits = tt; memory = i.memory; enough = λ h. i.enough (filled-less xs more room h) }
added false old new more had e room xs i = record { bits = e ∙ ap (λ z. z ++ more) i.bits; memory = i.memory; enough = λ h. refl }

-- codewords are added, if memory for them is not refused
pub pushed : (was failed : Bool) (old new more : List Bool) (had next : ℕ) → (failed ≡ false → new ≡ old ++ more) → had ≤ next → (failed ≡ true → had < length (old ++ more) / 8)
    → Appends more (record { bits = cond was None (Some old); room = had }) (record { bits = cond (was || failed) None (Some new); room = next })
pushed true failed old new more had next e m few room xs i = record { bits = tt; memory = omega (arith, i.memory); enough = λ h. i.enough (filled-less xs more room h) }
pushed false false old new more had next e m few room xs i = record { bits = e refl ∙ ap (λ z. z ++ more) i.bits; memory = omega (arith, i.memory); enough = λ h. refl }
pushed false true old new more had next e m few room xs i = record {
  bits = tt;
  memory = omega (arith, i.memory);
  enough = λ h. let t = rw i.bits at few refl in absurd (omega (arith, t, i.memory));
}

-- if there is no memory for the codewords that further bits fill, all the bits fill more codewords than there is memory for
pub filled-more : (bytes : List ℕ) (w r : ℕ) (more : List Bool) (had : ℕ) → had < length bytes + (w + length more) / 8 → had < length ((bits_of bytes ++ field w r) ++ more) / 8
filled-more bytes w r more had h =
    omega (arith, length-append (bits_of bytes ++ field w r) more, length-append (bits_of bytes) (field w r), length-bits_of bytes, length-field w r)

-- what holds of an error holds if there is one
pub on-error : {A E : Type 0} (P : Type 0) (r : Result A E) → OnErr r P → is_err r ≡ true → P
on-error P r h e = grind arith

-- the codewords after a push that is not refused
pub push-made : (xs ys zs : List ℕ) (ok failed : Bool) → zs ≡ cond ok ys xs → ok ≡ not failed → failed ≡ false → zs ≡ ys
push-made _ _ _ _ _ e d f = rw (d, f) at e
