-- The multiples of a divisor, and the division by them.
use Rattle.std.proofs.Common.{◌≡◌, ℕ, ◌+◌, ◌*◌, ◌/◌, ◌%◌, ◌^◌, ◌<◌, ◌≤◌, List, [], ◌∷◌, ◌++◌, length, take, drop, get_or, set, refl, sym, ap, ◌∙◌, arith, bit_xor, lit<}
use Rattle.std.{proofs.{lemmas.{Nat.{xor_comm, xor_of_8}, List.Elements.{All-drop, All-push, All-head, All-tail}}, Math.Nat.pow-le-pow_right}, specs.List.All}
use Rattle.std.proofs.lemmas.List.{get_or-replicate, get_or-set_same, get_or-set_other, length-map, length-set, length-replicate}
use lib.ListN.{replicate}
use Rattle.qr_field.specs.{declared.register.Register.Register, Galois.product, Polynomial.{IsByte, plus, zeros, scaled, generator_of}}
use Rattle.qr_field.specs.Steps.Register.{packed, unpacked, value_of, zero_register, divisor_of, HasMultiples, IsHeld}
use Rattle.qr_field.proofs.lemmas.galois.{BitLemmas.digits, FieldLemmas.product-assoc, ByteLemmas.{product-by_sixteen, product-of_one, product-of_two_small}}
use Rattle.qr_field.proofs.lemmas.{polynomial.ListLemmas.bytes-scaled, galois.ProductLemmas.product-xor}
use Rattle.qr_field.proofs.lemmas.polynomial.PolynomialLemmas.{correction-start, correction-step, generator-is}
use Rattle.qr_field.proofs.lemmas.register.{scaled-unpacked, packed-unpacked, bytes-unpacked, packed-plus, packed-none, packed-zeros, packed-zero_last, packed-first}

-- a sum of multiples
scaled-xor : (a b : ℕ) (g : List ℕ) → a < 256 → b < 256 → plus (scaled a g) (scaled b g) ≡ scaled (bit_xor a b) g
scaled-xor a b [] l m = refl
scaled-xor a b (x ∷ g) l m = cc (product-xor a b x l m, scaled-xor a b g l m)

-- a multiple of a multiple
scaled-scaled : (a b : ℕ) (g : List ℕ) → a < 256 → b < 256 → All IsByte g → scaled a (scaled b g) ≡ scaled (product a b) g
scaled-scaled a b [] l m h = refl
scaled-scaled a b (x ∷ g) l m h =
    cc (product-assoc a b x l m (All-head IsByte x g h), scaled-scaled a b g l m (All-tail IsByte x g h))

-- the multiple by 1
scaled-one : (g : List ℕ) → All IsByte g → scaled 1 g ≡ g
scaled-one [] h = refl
scaled-one (x ∷ g) h = cc (product-of_one x (All-head IsByte x g h), scaled-one g (All-tail IsByte x g h))

-- twice a multiple that is packed
pub packed-double : (b : ℕ) (g : List ℕ) (v : ℕ) → b < 128 → length g ≤ 32 → All IsByte g →
    v ≡ packed (scaled b g) → packed (scaled 2 (unpacked 32 v)) ≡ packed (scaled (b * 2) g)
packed-double b g v l n h e =
    search (arith, product-of_two_small, length-map, scaled-unpacked, bytes-scaled, scaled-scaled)

-- what is packed is the multiple by 1
pub packed-one : (v : ℕ) → v < 2 ^ 256 → v ≡ packed (scaled 1 (unpacked 32 v))
packed-one v l = cc (packed-unpacked 32 v l, scaled-one (unpacked 32 v) (bytes-unpacked 32 v))

-- what is doubled four times is the multiple by 16
pub packed-sixteen : (g : List ℕ) (a b c d e : ℕ) → length g ≤ 32 → All IsByte g → a ≡ packed g →
    b ≡ packed (scaled 2 (unpacked 32 a)) → c ≡ packed (scaled 2 (unpacked 32 b)) →
    d ≡ packed (scaled 2 (unpacked 32 c)) → e ≡ packed (scaled 2 (unpacked 32 d)) → e ≡ packed (scaled 16 g)
packed-sixteen g a b c d e n h is ib ic id ie =
    let one : a ≡ packed (scaled 1 g) = cc (is, scaled-one g h) in
    let two : b ≡ packed (scaled 2 g) = ib ∙ packed-double 1 g a (lit< tt) n h one in
    let four : c ≡ packed (scaled 4 g) = ic ∙ packed-double 2 g b (lit< tt) n h two in
    ie ∙ packed-double 8 g d (lit< tt) n h (id ∙ packed-double 4 g c (lit< tt) n h four)

-- the multiple by 0 alone
pub multiples-start : (g : List ℕ) → All IsByte g → HasMultiples g 0 1 (replicate 16 zero_register)
multiples-start g a =
    record {
      many = length-replicate 16 zero_register;
      each = λ f l.
          let e : f * 2 ^ 0 ≡ 0 = omega arith in
          search (arith, get_or-replicate, packed-none);
    }

-- one multiple more
pub multiples-more : (g : List ℕ) (rows : List Register) (i r : ℕ) (row by_bit : Register) → i < 4 → r < 2 ^ i →
    value_of row ≡ bit_xor (value_of (get_or rows r zero_register)) (value_of by_bit) →
    value_of by_bit ≡ packed (scaled (2 ^ i) g) → HasMultiples g 0 (2 ^ i + r) rows →
    HasMultiples g 0 (2 ^ i + (r + 1)) (set rows (2 ^ i + r) row)
multiples-more g rows i r row by_bit li l sum by h =
    let bit = 2 ^ i in
    let small : bit ≤ 8 = search (arith, pow-le-pow_right) in
    let one : bit ≡ 1 * bit = omega arith in
    let joined : bit_xor r bit ≡ bit + r = cc (xor_comm r bit, digits i 1 r l) in
    let same : r * 2 ^ 0 ≡ r = omega arith in
    let rl : r < 256 = omega (arith, small) in
    let bl : bit < 256 = omega (arith, small) in
    let is : value_of row ≡ packed (scaled (bit + r) g) =
    cc (sum, (h.each r (omega arith) ∙ ap (λ t. packed (scaled t g)) same), by, packed-plus (scaled r g) (scaled bit g) (bytes-scaled r g rl) (bytes-scaled bit g bl), scaled-xor r bit g rl bl, joined) in
    search (arith, length-set, get_or-set_other, get_or-set_same)

-- the multiples of what is 16 times packed
pub multiples-sixteen : (g : List ℕ) (v : ℕ) (rows : List Register) → length g ≤ 32 → All IsByte g →
    v ≡ packed (scaled 16 g) → HasMultiples (unpacked 32 v) 0 16 rows → HasMultiples g 4 16 rows
multiples-sixteen g v rows n a e h =
    search (arith, product-by_sixteen, length-map, scaled-unpacked, bytes-scaled, scaled-scaled)

-- a multiple is the sum of those by the low four bits and by the high four
pub multiple-of_halves : (g : List ℕ) (low high : List Register) (f : ℕ) → f < 256 →
    HasMultiples g 0 16 low → HasMultiples g 4 16 high →
    bit_xor (value_of (get_or low (f % 2 ^ 4) zero_register)) (value_of (get_or high (f / 2 ^ 4) zero_register)) ≡ packed (scaled f g)
multiple-of_halves g low high f l a b =
    let x = f % 2 ^ 4 * 2 ^ 0 in
    let y = f / 2 ^ 4 * 2 ^ 4 in
    let lx : x < 256 = omega arith in
    let ly : y < 256 = omega arith in
    let one : x ≡ f % 2 ^ 4 = omega arith in
    ap (λ t. bit_xor t (value_of (get_or high (f / 2 ^ 4) zero_register))) (a.each (f % 2 ^ 4) (omega arith))
    ∙ (ap (bit_xor (packed (scaled x g))) (b.each (f / 2 ^ 4) (omega arith))
    ∙ (sym (packed-plus (scaled x g) (scaled y g) (bytes-scaled x g lx) (bytes-scaled y g ly))
    ∙ (ap packed (scaled-xor x y g lx ly) ∙ ap (λ t. packed (scaled t g)) (xor_comm x y ∙ (ap (bit_xor y) one ∙ (digits 4 (f / 2 ^ 4) (f % 2 ^ 4) (omega arith) ∙ (let e : f / 2 ^ 4 * 2 ^ 4 + f % 2 ^ 4 ≡ f = omega arith in e)))))))

-- ---- division

-- the register of no codewords
pub held-start : (n : ℕ) → IsHeld [] n 0
held-start n = record { items = zeros n; correction = correction-start n; same = packed-zeros n }

-- the register after one more codeword
pub held-step : (m : List ℕ) (i n v row : ℕ) → i < length m → get_or m i 0 < 256 → 1 ≤ n →
    row ≡ packed (scaled (bit_xor (get_or m i 0) (v % 2 ^ 8)) (divisor_of n)) → IsHeld (take i m) n v →
    IsHeld (take (i + 1) m) n (bit_xor (v / 2 ^ 8) row)
held-step m i n v row l b k e h =
    let g = divisor_of n in
    let items = h.items in
    let is : 1 ∷ g ≡ generator_of n = generator-is n in
    let bytes = h.correction.bytes in
    let one : 1 ≤ length items = omega (arith, h.correction.count) in
    let r = v % 2 ^ 8 in
    let first : r ≡ get_or items 0 r = ap (λ t. t % 2 ^ 8) h.same ∙ packed-first items r one bytes in
    let factor = bit_xor (get_or m i 0) r in
    let small : r < 256 = omega arith in
    let moved : List ℕ = drop 1 items ++ 0 ∷ [] in
    let sum : List ℕ = plus moved (scaled factor g) in
    let rest : v / 2 ^ 8 ≡ packed moved = search (arith, packed-zero_last) in
    let added = packed-plus moved (scaled factor g) (All-push IsByte (drop 1 items) 0 (All-drop IsByte 1 items bytes) (lit< tt)) (bytes-scaled factor g (xor_of_8 (get_or m i 0) r b small)) in
    record {
      items = sum;
      correction = correction-step m i n r items moved sum g l b k is first refl refl h.correction;
      same = cc;
    }
