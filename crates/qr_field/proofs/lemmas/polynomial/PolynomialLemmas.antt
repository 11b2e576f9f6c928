-- Generator polynomials and error correction codewords: what the loops compute, and that both are unique.
use Rattle.std.proofs.Common.{◌≡◌, ℕ, zero, suc, ◌+◌, ◌-◌, ◌<◌, ◌≤◌, List, [], ◌∷◌, ◌++◌, length, take, drop, get_or, refl, sym, ap, ◌∙◌, subst, arith, bit_xor, lit<, append_assoc, length-append}
use Rattle.std.proofs.{lemmas.Nat.{xor_comm, xor_of_8}, Math.Numerals.suc-eq-add-one}
use Rattle.std.proofs.lemmas.List.{length-map, append_cancel_left, append-nil, take_at, take_more, drop_more, get_or_read}
use Rattle.std.proofs.lemmas.List.Elements.{All-nil, All-cons, All-head, All-tail, All-push, All-rest}
use Rattle.{std.specs.{List.All, Int.Bits.xor_zero_r}, qr_field.specs.{Galois.product, Steps.Polynomial.carried}}
use Rattle.qr_field.specs.Polynomial.{IsByte, plus, zeros, scaled, times, power, generator_of, IsCorrection, HasCorrection}
use Rattle.qr_field.proofs.lemmas.galois.{ByteLemmas.product-by_one, BitLemmas.xor-cancel}
use Rattle.qr_field.proofs.lemmas.polynomial.ListLemmas.{plus-append, plus-zeros, length-plus, same-plus, bytes-zeros, bytes-plus, bytes-scaled, length-zeros, length-times, times-snoc}

-- ---- the step of a register

-- if q times the generator is p and the register r ∷ rs, then with the next quotient it is p, b and the next register
divide-step : (p q : List ℕ) (b r : ℕ) (rs g : List ℕ) → b < 256 → r < 256 → length q ≡ length p →
    length g ≡ length (r ∷ rs) → times q (1 ∷ g) ≡ p ++ r ∷ rs →
    times (q ++ bit_xor b r ∷ []) (1 ∷ g) ≡ (p ++ b ∷ []) ++ plus (rs ++ 0 ∷ []) (scaled (bit_xor b r) g)
divide-step p q b r rs g lb lr lq lg e =
    search (arith, xor_of_8, product-by_one, xor_comm, xor-cancel, times-snoc, append_assoc, plus-append, length-zeros, plus-zeros)

-- ---- there is one quotient

-- quotients of one length whose products by a monic polynomial begin with the same coefficients are equal
quotient-one : (q r g : List ℕ) → All IsByte q → All IsByte r → length q ≡ length r →
    take (length q) (times q (1 ∷ g)) ≡ take (length q) (times r (1 ∷ g)) → q ≡ r
quotient-one [] [] g a b l e = refl
quotient-one [] (y ∷ r) g a b l e = absurd (omega arith)
quotient-one (x ∷ q) [] g a b l e = absurd (omega arith)
quotient-one (x ∷ q) (y ∷ r) g a b l e =
    let hx : product x 1 ≡ x = product-by_one x (All-head IsByte x q a) in
    let hy : product y 1 ≡ y = product-by_one y (All-head IsByte y r b) in
    let zx = xor_zero_r (product x 1) in
    let zy = xor_zero_r (product y 1) in
    let head : bit_xor (product x 1) 0 ≡ bit_xor (product y 1) 0 = ap (λ t. get_or t 0 0) e in
    let same : x ≡ y = cc in
    let lq = length-times q 1 g in
    let rest = same-plus (length q) (scaled x g) (times q (1 ∷ g)) (times r (1 ∷ g)) (omega (arith, lq)) (omega (arith, length-times r 1 g, lq)) cc in
    let ih = quotient-one q r g (All-tail IsByte x q a) (All-tail IsByte y r b) (omega arith) rest in
    cc

-- ---- generators

-- the product of a polynomial c ∷ q by x - root has the coefficients that the loop carries
times-root : (c : ℕ) (q : List ℕ) (root : ℕ) → c < 256 → All IsByte q →
    times (c ∷ q) (1 ∷ root ∷ []) ≡ c ∷ carried c q root
times-root c [] root l a = search (arith, product-by_one, xor_zero_r)
times-root c (x ∷ q) root l a =
    search (arith, product-by_one, xor_zero_r, All-head, All-tail, xor_comm, times-root x q root (All-head IsByte x q a) (All-tail IsByte x q a))

-- a generator polynomial begins with the coefficient 1 and has degree n
pub generator-shape : (n : ℕ) → (g : List ℕ) × (generator_of n ≡ 1 ∷ g) × (length g ≡ n)
generator-shape zero = ([], refl, refl)
generator-shape (suc n) = search (arith, product-by_one, xor_zero_r, generator-shape n, length-times (generator_of n) 1 (power n ∷ []))

-- the product of two polynomials has bytes as coefficients, if the first has bytes as coefficients
pub bytes-times : (q g : List ℕ) → All IsByte q → All IsByte (times q g)
bytes-times [] g a = bytes-zeros (length g - 1)
bytes-times (b ∷ q) g a = search (arith, All-tail, bytes-plus, All-cons, bytes-times q g (All-tail IsByte b q a), bytes-scaled b g (All-head IsByte b q a))

-- a generator polynomial has bytes as coefficients
pub bytes-generator : (n : ℕ) → All IsByte (generator_of n)
bytes-generator zero = All-cons IsByte 1 [] (lit< tt) (All-nil IsByte)
bytes-generator (suc n) = search (arith, bytes-times, bytes-generator n)

-- one round of the loop computes the generator polynomial of degree n + 1 from that of degree n
pub generator-next : (n r : ℕ) (g : List ℕ) → 1 ∷ g ≡ generator_of n → r ≡ power n →
    1 ∷ carried 1 g r ≡ generator_of (n + 1)
generator-next n r g e f =
    cc (times-root 1 g r (lit< tt) (All-rest IsByte 1 g (generator_of n) (sym e) (bytes-generator n)), suc-eq-add-one n)

-- one round of the loop adds one coefficient
pub length-carried : (c : ℕ) (q : List ℕ) (r : ℕ) → length (carried c q r) ≡ length q + 1
length-carried c [] r = refl
length-carried c (x ∷ q) r = omega (arith, (length-carried x q r))

-- twice the power of 2 to n is the power to n + 1
pub power-next : (n r : ℕ) → r ≡ power n → product 2 r ≡ power (n + 1)
power-next n r e = ap (product 2) e ∙ ap power (suc-eq-add-one n)

-- ---- corrections

-- the error correction codewords of no data codewords are zeros
pub correction-start : (n : ℕ) → IsCorrection [] n (zeros n)
correction-start n = search (arith, All-nil, length-zeros, bytes-zeros, generator-shape n)

-- one round of the register makes the error correction codewords of one codeword more
correction-next : (p : List ℕ) (n b r : ℕ) (rs g : List ℕ) → b < 256 → 1 ∷ g ≡ generator_of n →
    IsCorrection p n (r ∷ rs) → IsCorrection (p ++ b ∷ []) n (plus (rs ++ 0 ∷ []) (scaled (bit_xor b r) g))
correction-next p n b r rs g l e c =
    let s = generator-shape n in
    let lg : length g ≡ n = omega (arith, ap length e, ap length s.1, s.2) in
    let m = c.multiple in
    let w : times m.quotient (1 ∷ g) ≡ p ++ r ∷ rs = ap (λ t. times m.quotient t) e ∙ m.whole in
    let lr : r < 256 = All-head IsByte r rs c.bytes in
    let d = divide-step p m.quotient b r rs g l lr (omega (arith, length-times m.quotient 1 g, (length-append p (r ∷ rs)), ap length w, c.count)) (omega (arith, c.count)) w in
    let lm = length-map g (product (bit_xor b r)) in
    let lf = xor_of_8 b r l lr in
    let moved = All-push IsByte rs 0 (All-tail IsByte r rs c.bytes) (lit< tt) in
    record {
      count = omega (arith, length-plus (rs ++ 0 ∷ []) (scaled (bit_xor b r) g) (omega (arith, length-append rs (0 ∷ []), lm, c.count)), lm, lg);
      bytes = search (arith, bytes-plus, bytes-scaled);
      multiple = record {
        quotient = m.quotient ++ bit_xor b r ∷ [];
        bytes = All-push IsByte m.quotient (bit_xor b r) m.bytes lf;
        whole = cc;
      };
    }

-- the same as the code does it: the first byte is dropped, a 0 added, and then a multiple of the generator
pub correction-step : (m : List ℕ) (i n r : ℕ) (items moved sum g : List ℕ) → i < length m →
    get_or m i 0 < 256 → 1 ≤ n → 1 ∷ g ≡ generator_of n → r ≡ get_or items 0 r →
    moved ≡ drop 1 items ++ 0 ∷ [] → sum ≡ plus moved (scaled (bit_xor (get_or m i 0) r) g) →
    IsCorrection (take i m) n items → IsCorrection (take (i + 1) m) n sum
correction-step m i n r items moved sum g h l k e er em es c =
    let byte = get_or m i 0 in
    let next : List ℕ = plus (drop 1 items ++ 0 ∷ []) (scaled (bit_xor byte r) g) in
    let one : 0 < length items = omega (arith, c.count) in
    let f : r ∷ drop 1 items ≡ items = cc (get_or_read items 0 r one er 0, drop_more items 0 0 one) in
    search (arith, take_more, correction-next (take i m) n byte r (drop 1 items) g l e (subst (λ (t : List ℕ). IsCorrection (take i m) n t) (sym f) c))

-- a generator polynomial is the coefficient 1 followed by its other coefficients
pub generator-is : (n : ℕ) → 1 ∷ drop 1 (generator_of n) ≡ generator_of n
generator-is n = let s = generator-shape n in ap (λ t. 1 ∷ drop 1 t) s.1 ∙ sym s.1

-- data codewords have at most one list of n error correction codewords
pub correction-one : (d : List ℕ) (n : ℕ) (e f : List ℕ) → IsCorrection d n e → IsCorrection d n f → e ≡ f
correction-one d n e f a b =
    let s = generator-shape n in
    let g = s.0 in
    let qa = a.multiple.quotient in
    let qb = b.multiple.quotient in
    let wa : times qa (1 ∷ g) ≡ d ++ e = ap (λ t. times qa t) (sym s.1) ∙ a.multiple.whole in
    let tb = length-times qb 1 g in
    let lb = length-append d f in
    let na : length qa ≡ length d = omega (arith, length-times qa 1 g, length-append d e, ap length wa, a.count, s.2) in
    let fronts : take (length qa) (times qa (1 ∷ g)) ≡ take (length qa) (times qb (1 ∷ g)) =
    cc (take_at d e (length qa) (sym na), take_at d f (length qa) (sym na)) in
    search (arith, quotient-one, append_cancel_left)

-- if the codewords p have error correction codewords, then p followed by any bytes d has error correction codewords
correction-after : (p : List ℕ) (n : ℕ) (register d g : List ℕ) → 1 ≤ n → 1 ∷ g ≡ generator_of n →
    All IsByte d → IsCorrection p n register → HasCorrection (p ++ d) n
correction-after p n register [] g k e a c = search (arith, append-nil)
correction-after p n register (b ∷ d) g k e a c =
    let r = get_or register 0 0 in
    let register' : List ℕ = plus (drop 1 register ++ 0 ∷ []) (scaled (bit_xor b r) g) in
    let one : 0 < length register = omega (arith, c.count) in
    let f : r ∷ drop 1 register ≡ register = sym (drop_more register 0 0 one) in
    let next = correction-next p n b r (drop 1 register) g (All-head IsByte b d a) e (subst (λ (t : List ℕ). IsCorrection p n t) (sym f) c) in
    search (arith, All-tail, append_assoc, correction-after (p ++ b ∷ []) n register' d g k e (All-tail IsByte b d a) next)

-- all data codewords have error correction codewords
pub correction-some : (d : List ℕ) (n : ℕ) → 1 ≤ n → All IsByte d → HasCorrection d n
correction-some d n k a =
    let s = generator-shape n in
    correction-after [] n (zeros n) d s.0 k (sym s.1) a (correction-start n)
