-- Values of polynomials, and sums of products of their coefficients with the items of a list.
use Rattle.qr_field.proofs.lemmas.galois.BitLemmas.{xor-swap}
use Rattle.qr_field.proofs.lemmas.galois.ByteLemmas.{product-by_zero, product-by_one, product-of_zero, product-of_one, below, below-at, same-below}
use Rattle.qr_field.proofs.lemmas.galois.FieldLemmas.{product-comm, product-assoc, product-front, product-by_sum}
use Rattle.qr_field.proofs.lemmas.galois.PowerLemmas.{power-lt, power-add, power-mod, entry, entry-is}
use Rattle.qr_field.proofs.lemmas.{galois.ProductLemmas.{product-lt, product-xor, product-double}, register.byte-xor}
use Rattle.qr_field.specs.{Galois.{product, carryless, remainder_of}, Polynomial.{IsByte, plus, scaled, power}}
use Rattle.qr_mending.specs.{Steps.{Sums.{dot_of, eval, blend, HasValues}, Values.of_digits}, declared.sums.TheConstants.MULTIPLES}
use Rattle.std.proofs.Common.{◌≡◌, ℕ, ◌+◌, ◌-◌, ◌*◌, ◌%◌, ◌<◌, ◌≤◌, List, [], ◌∷◌, length, drop, get_or, refl, ap, arith, lit<, bit_xor, zero, suc, ◌/◌, ◌^◌, true, eqb, sym, ◌∙◌, bit_and}
use Rattle.std.proofs.{Math.Nat.zero-div, lemmas.{List.{drop_more, Elements.{All-drop, All-head, All-tail}}, Nat.{xor_of_8, xor_comm, and_le_r}}}
use Rattle.std.specs.{Int.{byte_at, Bits.{xor_assoc, xor_zero_l}}, List.All}

-- ---- the field

pub xor-front : (a b c : ℕ) → bit_xor a (bit_xor b c) ≡ bit_xor b (bit_xor a c)
xor-front a b c = search (arith, xor_assoc, xor_comm)

-- the laws by which two sums of products of bytes are brought into one form
pub ruleset field_laws = (
  product-by_sum,
  ← product-xor,
  product-assoc,
  product-front,
  product-comm,
  xor_assoc,
  xor-front,
  xor_comm,
  product-lt,
)

-- the next power of a power
pub power-next : (i m : ℕ) → power ((i + 1) * m) ≡ product (power m) (power (i * m))
power-next i m = rw (← power-add m (i * m)) (ap power (omega arith))

-- an element times a power, by the exponent of the element
pub multiple-is : (element l i j e : ℕ) → power l ≡ element → e ≡ (l + i * j) % 255 → power e ≡ product element (power (i * j))
multiple-is element l i j e log h = cc (power-mod (l + i * j), power-add l (i * j))

-- 0 times a power
pub multiple-none : (element e : ℕ) → element ≡ 0 → element ≡ product element (power e)
multiple-none element e h = search (arith, product-of_zero, power-lt)

-- an element times the first power
pub multiple-same : (element e : ℕ) → element < 256 → e ≡ 0 → element ≡ product element (power e)
multiple-same element e l h = cc (product-by_one element l)

-- the first multiple of an element
pub multiple-first : (element step : ℕ) → element < 256 → element ≡ product element (power (0 * step))
multiple-first element step l = multiple-same element (0 * step) l (omega arith)

-- the next multiple
pub multiple-next : (element k step e s : ℕ) → element < 256 →
    power e ≡ product element (power (k * step)) → power s ≡ product (power e) (power step) →
    power s ≡ product element (power ((k + 1) * step))
multiple-next element k step e s l now next =
    let exponent : (k + 1) * step ≡ k * step + step = omega arith in
    search (arith, power-add, product-assoc, power-lt)

-- ---- values

-- ---- sums of products

-- the sum of products of bytes is a byte
pub dot-lt : (p w : List ℕ) → All IsByte p → dot_of p w < 256
dot-lt [] w a = lit< tt
dot-lt (x ∷ p) [] a = lit< tt
dot-lt (x ∷ p) (y ∷ w) a =
    search (arith, xor_of_8, product-lt, All-head, All-tail, dot-lt p w (All-tail IsByte x p a))

-- the sum of products for a sum of two lists, of which the first is multiplied by c
pub dot-plus : (c : ℕ) (xs ys w : List ℕ) → c < 256 → All IsByte xs → All IsByte ys → All IsByte w →
    length xs ≤ length ys → dot_of (plus (scaled c xs) ys) w ≡ bit_xor (product c (dot_of xs w)) (dot_of ys w)
dot-plus c [] ys w lc lx ly lw h = cc (product-by_zero c lc, xor_zero_l (dot_of ys w))
dot-plus c (x ∷ xs) [] w lc lx ly lw h = absurd (omega arith)
dot-plus c (x ∷ xs) (y ∷ ys) [] lc lx ly lw h = cc (product-by_zero c lc, xor_zero_l 0)
dot-plus c (x ∷ xs) (y ∷ ys) (b ∷ w) lc lx ly lw h =
    let ax = All-head IsByte x xs lx in
    let ab = All-head IsByte b w lw in
    let lxs = All-tail IsByte x xs lx in
    let d = dot_of xs w in
    cc (
      product-xor (product c x) y b (product-lt c x lc) (All-head IsByte y ys ly),
      product-assoc c x b lc ax ab,
      dot-plus c xs ys w lc lxs (All-tail IsByte y ys ly) (All-tail IsByte b w lw) (omega arith),
      xor-swap (product c (product x b)) (product y b) (product c d) (dot_of ys w),
      product-by_sum c (product x b) d lc (product-lt x b ax) (dot-lt xs w lxs),
    )

-- the sum of products with a list of values
pub dot-blend : (p : List ℕ) (i : ℕ) (s e : List ℕ) → HasValues s e → i + length p ≤ length s →
    dot_of p (drop i s) ≡ blend p i e
dot-blend [] i s e h l = refl
dot-blend (a ∷ p) i s e h l = search (arith, drop_more, dot-blend p (i + 1) s e h (omega arith))

-- the value of a polynomial at a byte is a byte
pub eval-lt : (x : ℕ) (p : List ℕ) → x < 256 → All IsByte p → eval x p < 256
eval-lt x [] l a = lit< tt
eval-lt x (c ∷ p) l a = search (arith, xor_of_8, All-head, product-lt)

-- an empty list contains the first values of every list
pub values-none : (s e : List ℕ) → s ≡ [] → HasValues s e
values-none s e h = search arith

-- the value at 2 to the power m of the coefficients from index k - 1 on, as terms of the whole polynomial
pub eval-more : (m k : ℕ) (p : List ℕ) → All IsByte p → 0 < k → k ≤ length p →
    product (power (m * (k - 1))) (eval (power m) (drop (k - 1) p))
    ≡ bit_xor (product (get_or p (k - 1) 0) (power (m * (k - 1)))) (product (power (m * k)) (eval (power m) (drop k p)))
eval-more m k p lp some l =
    let i = k - 1 in
    let next : i + 1 ≡ k = omega arith in
    let a = get_or p i 0 in
    let rest = eval (power m) (drop k p) in
    let lr = eval-lt (power m) (drop k p) (power-lt m) (All-drop IsByte k p lp) in
    let exponent : m * (i + 1) ≡ m * i + m = omega arith in
    search (arith, drop_more, power-add, product-assoc, power-lt, product-by_sum, product-lt, product-comm)

-- once all coefficients are terms
pub eval-all : (m : ℕ) (p : List ℕ) → All IsByte p → product (power (m * 0)) (eval (power m) (drop 0 p)) ≡ eval (power m) p
eval-all m p lp = search (arith, product-of_one, eval-lt, power-lt)

-- Sixteen sums of products at once, by the digits to the base 4 of their factors.

-- ---- bytes

-- a byte is below 256
pub byte-lt : (k n : ℕ) → byte_at k n < 256
byte-lt k n = grind arith

-- the bytes of 0
pub byte-none : (k : ℕ) → byte_at k 0 ≡ 0
byte-none k = grind (arith, zero-div)

-- ---- the table

-- the items of the table for the digits 0, 1, 2 and 3, computed
rows-none : below 31 (λ j. eqb (get_or MULTIPLES (4 * j) 0) 0) ≡ true
rows-none = refl

rows-one : below 31 (λ j. below 16 (λ k. eqb (byte_at k (get_or MULTIPLES (4 * j + 1) 0)) (entry (k * j)))) ≡ true
rows-one = refl

rows-two : below 31 (λ j. below 16 (λ k. eqb (byte_at k (get_or MULTIPLES (4 * j + 2) 0)) (entry (k * j + 1)))) ≡ true
rows-two = refl

rows-three : below 31 (λ j. eqb (get_or MULTIPLES (4 * j + 3) 0) (bit_xor (get_or MULTIPLES (4 * j + 1) 0) (get_or MULTIPLES (4 * j + 2) 0))) ≡ true
rows-three = refl

-- the multiples by 1
row-one : (j k : ℕ) → j < 31 → k < 16 → byte_at k (get_or MULTIPLES (4 * j + 1) 0) ≡ product 1 (power (k * j))
row-one j k l m =
    same-below 16 (λ n. byte_at n (get_or MULTIPLES (4 * j + 1) 0)) (λ n. entry (n * j)) (below-at 31 (λ i. below 16 (λ n. eqb (byte_at n (get_or MULTIPLES (4 * i + 1) 0)) (entry (n * i)))) rows-one j l) k m
    ∙ (entry-is (k * j) ∙ sym (product-of_one (power (k * j)) (power-lt (k * j))))

-- the multiples by 2
row-two : (j k : ℕ) → j < 31 → k < 16 → byte_at k (get_or MULTIPLES (4 * j + 2) 0) ≡ product 2 (power (k * j))
row-two j k l m =
    let next : k * j + 1 ≡ suc (k * j) = omega arith in
    same-below 16 (λ n. byte_at n (get_or MULTIPLES (4 * j + 2) 0)) (λ n. entry (n * j + 1)) (below-at 31 (λ i. below 16 (λ n. eqb (byte_at n (get_or MULTIPLES (4 * i + 2) 0)) (entry (n * i + 1)))) rows-two j l) k m
    ∙ (entry-is (k * j + 1) ∙ ap power next)

-- an item of the table
pub table-at : (j d k : ℕ) → j < 31 → d < 4 → k < 16 → byte_at k (get_or MULTIPLES (4 * j + d) 0) ≡ product d (power (k * j))
table-at j zero k l m h =
    search (arith, byte-none, product-of_zero, power-lt, same-below 31 (λ i. get_or MULTIPLES (4 * i) 0) (λ i. 0) rows-none j l)
table-at j (suc zero) k l m h = row-one j k l h
table-at j (suc (suc zero)) k l m h = row-two j k l h
table-at j (suc (suc (suc zero))) k l m h =
    let two = get_or MULTIPLES (4 * j + 2) 0 in
    search (arith, byte-xor, row-one, row-two, product-xor, same-below 31 (λ i. get_or MULTIPLES (4 * i + 3) 0) (λ i. bit_xor (get_or MULTIPLES (4 * i + 1) 0) (get_or MULTIPLES (4 * i + 2) 0)) rows-three j l)
table-at j (suc (suc (suc (suc d)))) k l m h = absurd (omega arith)

-- ---- digits

-- one digit more, in a product
digit-product : (x d t : ℕ) → x < 256 → d < 256 →
    bit_xor (product 2 (product 2 (product x t))) (product d t) ≡ product (bit_xor (product 2 (product 2 x)) d) t
digit-product x d t l m =
    cc (
      product-double x t l,
      product-double (product 2 x) t (product-lt 2 x (lit< tt)),
      product-xor (product 2 (product 2 x)) d t (product-lt 2 (product 2 x) (lit< tt)) m,
    )

-- the sum of two numbers by digits
digits-sum : (a b c d e f g h : ℕ) → a < 256 → b < 256 → c < 256 → e < 256 → f < 256 → g < 256 →
    of_digits (bit_xor a e) (bit_xor b f) (bit_xor c g) (bit_xor d h) ≡ bit_xor (of_digits a b c d) (of_digits e f g h)
digits-sum a b c d e f g h la lb lc le lf lg = search (arith, xor_of_8, product-lt, xor-swap, product-by_sum)

-- the digits of each byte, computed
digits-whole : below 256 (λ t. eqb (of_digits (t / 2 ^ 6) (bit_and (t / 2 ^ 4) 3) (bit_and (t / 2 ^ 2) 3) (bit_and t 3)) t) ≡ true
unfolding carryless product remainder_of
digits-whole = refl

-- sums to which the multiples of an element by the digits of a byte are added
pub digits-added : (k t x a b c d e f g h : ℕ) → t < 256 →
    byte_at k e ≡ product (t / 2 ^ 6) x → byte_at k f ≡ product (bit_and (t / 2 ^ 4) 3) x →
    byte_at k g ≡ product (bit_and (t / 2 ^ 2) 3) x → byte_at k h ≡ product (bit_and t 3) x →
    of_digits (byte_at k (bit_xor a e)) (byte_at k (bit_xor b f)) (byte_at k (bit_xor c g)) (byte_at k (bit_xor d h))
    ≡ bit_xor (of_digits (byte_at k a) (byte_at k b) (byte_at k c) (byte_at k d)) (product t x)
digits-added k t x a b c d e f g h l he hf hg hh =
    let sum = digits-sum (byte_at k a) (byte_at k b) (byte_at k c) (byte_at k d) (byte_at k e) (byte_at k f) (byte_at k g) (byte_at k h)
    (byte-lt k a) (byte-lt k b) (byte-lt k c) (byte-lt k e) (byte-lt k f) (byte-lt k g) in
    search (arith, and_le_r, byte-xor, xor_of_8, product-lt, digit-product, same-below 256 (λ n. of_digits (n / 2 ^ 6) (bit_and (n / 2 ^ 4) 3) (bit_and (n / 2 ^ 2) 3) (bit_and n 3)) (λ n. n) digits-whole t l)

-- sums of nothing
pub digits-none : (k : ℕ) → of_digits (byte_at k 0) (byte_at k 0) (byte_at k 0) (byte_at k 0) ≡ 0
unfolding carryless product remainder_of
digits-none k = ap (λ t. of_digits t t t t) (byte-none k)

-- ---- powers

-- an element times a power, and then another power with the same step
pub powers-product : (c first k step : ℕ) → c < 256 →
    product (product c (power (first * step))) (power (k * step)) ≡ product c (power ((first + k) * step))
powers-product c first k step l = search (arith, power-add, product-assoc, power-lt)
