-- Polynomials with given roots: their lengths, their leading coefficients and their values.
use Rattle.std.proofs.Common.{◌≡◌, ℕ, zero, suc, ◌+◌, ◌-◌, ◌<◌, ◌≤◌, Bool, true, false, if◌then◌else◌, List, [], ◌∷◌, ◌++◌, length, take, drop, get_or, set, refl, ap, ◌∙◌, arith, bit_xor}
use Rattle.std.proofs.lemmas.{Nat.{xor_of_8, xor_comm}, List.{drop_more, take_at, length_push, Elements.{All-nil, All-cons, All-head, All-tail}}}
use Rattle.std.proofs.lemmas.List.Sums.{sum_by-cons, sum_by-take-drop, sum_by-drop_more}
use Rattle.std.specs.{List.{All, count_by, sum_by}, Int.Bits.{xor_assoc, xor_zero_l, xor_zero_r, xor_self}}
use Rattle.qr_field.{specs.{Galois.product, Polynomial.{IsByte, power}}, proofs.lemmas.galois.ByteLemmas.{product-by_zero, product-of_zero, product-of_one}}
use Rattle.qr_field.proofs.lemmas.galois.{ProductLemmas.{product-lt, product-xor}, PowerLemmas.power-lt}
use Rattle.qr_field.proofs.lemmas.galois.{BitLemmas.xor-cancel, FieldLemmas.{product-assoc, product-comm, product-front, product-by_sum, product-factor, sum-none}}
use Rattle.qr_mending.{specs.Steps.{Sums.eval, Roots.{times_root, rooted, quotient, HasLeadingOne}}, proofs.lemmas.sums.{eval-lt, field_laws}}

-- ---- one root

-- a product with x + root has one coefficient more
length-times_root : (r c : ℕ) (p : List ℕ) → length (times_root r c p) ≡ length p + 1
length-times_root r c [] = refl
length-times_root r c (a ∷ p) = let rest = length-times_root r a p in omega arith

-- a product with x + root has bytes as coefficients
bytes-times_root : (r c : ℕ) (p : List ℕ) → r < 256 → c < 256 → All IsByte p → All IsByte (times_root r c p)
bytes-times_root r c [] lr lc lp = All-cons IsByte c [] lc (All-nil IsByte)
bytes-times_root r c (a ∷ p) lr lc lp =
    search (
      arith,
      All-cons,
      xor_of_8,
      product-lt,
      bytes-times_root r a p lr (All-head IsByte a p lp)
          (All-tail IsByte a p lp),
    )

-- a product with x + root keeps the leading 1
monic-times_root : (r c : ℕ) (w : List ℕ) → (v : List ℕ) × (times_root r c (w ++ 1 ∷ []) ≡ v ++ 1 ∷ [])
monic-times_root r c [] = (bit_xor c (product r 1) ∷ [], refl)
monic-times_root r c (a ∷ w) =
    let rest = monic-times_root r a w in
    (bit_xor c (product r a) ∷ rest.0, cc)

-- the value of a product with x + root, with a carry
eval-times_root : (y r c : ℕ) (p : List ℕ) → y < 256 → r < 256 → All IsByte p →
    eval y (times_root r c p) ≡ bit_xor c (product (bit_xor y r) (eval y p))
eval-times_root y r c [] ly lr lp = search (arith, product-by_zero, xor_of_8)
eval-times_root y r c (a ∷ p) ly lr lp =
    let la = All-head IsByte a p lp in
    let lps = All-tail IsByte a p lp in
    search (
      arith,
      xor_of_8,
      eval-lt,
      product-by_sum,
      product-lt,
      product-xor,
      product-front,
      xor_assoc,
      xor_comm,
      eval-times_root y r a p ly lr lps,
    )

-- the value of a product with x + root, without a carry
eval-root : (y r : ℕ) (p : List ℕ) → y < 256 → r < 256 → All IsByte p →
    eval y (times_root r 0 p) ≡ product (bit_xor y r) (eval y p)
eval-root y r p ly lr lp = omega (arith, eval-times_root, xor_zero_l)

-- ---- a root for each erased codeword

-- one erased codeword more
pub count-more : (b : Bool) (es : List Bool) → count_by (λ e. e) (b ∷ es) ≡ (if b then 1 else 0) + count_by (λ e. e) es
count-more b es = sum_by-cons (λ e. if e then 1 else 0) b es

-- the product has a coefficient more for each erased codeword
pub length-rooted : (es : List Bool) (p : List ℕ) → length (rooted es p) ≡ length p + count_by (λ e. e) es
length-rooted [] p = omega arith
length-rooted (true ∷ es) p = omega (arith, length-times_root, count-more, length-rooted es p)
length-rooted (false ∷ es) p = omega (arith, count-more, length-rooted es p)

-- the product for the codewords after an erased one has fewer coefficients than the product for all codewords
pub length-rooted_rest : (es : List Bool) (i : ℕ) (p : List ℕ) → 0 < i → i ≤ length es →
    get_or es (i - 1) false ≡ true → length (rooted (drop i es) p) < length p + count_by (λ e. e) es
length-rooted_rest es i p some l h =
    let marked : Bool → ℕ = λ e. if e then 1 else 0 in
    let next : i ≡ i - 1 + 1 = omega arith in
    let all = sum_by-take-drop marked es (i - 1) in
    let rest = sum_by-drop_more marked es (i - 1) false (omega arith) in
    let one : marked (get_or es (i - 1) false) ≡ 1 = ap marked h in
    let same : sum_by marked (drop i es) ≡ sum_by marked (drop (i - 1 + 1) es) = ap (λ k. sum_by marked (drop k es)) next in
    omega (arith, length-rooted)

-- the product has bytes as coefficients
pub bytes-rooted : (es : List Bool) (p : List ℕ) → All IsByte p → All IsByte (rooted es p)
bytes-rooted [] p lp = lp
bytes-rooted (true ∷ es) p lp = search (arith, bytes-times_root, power-lt, bytes-rooted es p lp)
bytes-rooted (false ∷ es) p lp = bytes-rooted es p lp

-- the product keeps the leading 1
monic-rooted : (es : List Bool) (w : List ℕ) → (v : List ℕ) × (rooted es (w ++ 1 ∷ []) ≡ v ++ 1 ∷ [])
monic-rooted [] w = (w, refl)
monic-rooted (true ∷ es) w =
    let rest = monic-rooted es w in
    let one = monic-times_root (power (length es)) 0 rest.0 in
    search arith
monic-rooted (false ∷ es) w = monic-rooted es w

pub rooted-leading : (es : List Bool) (p : List ℕ) → HasLeadingOne p → HasLeadingOne (rooted es p)
rooted-leading es p h =
    let all = monic-rooted es h.others in
    search arith

-- the value of the product is the value of the polynomial times that of the factor
pub eval-rooted : (y : ℕ) (es : List Bool) (p : List ℕ) → y < 256 → All IsByte p →
    eval y (rooted es p) ≡ product (eval y (rooted es (1 ∷ []))) (eval y p)
eval-rooted y [] p ly lp = search (arith, product-by_zero, xor_zero_r, product-of_one, eval-lt)
eval-rooted y (true ∷ es) p ly lp =
    search (
      arith,
      power-lt,
      bytes-rooted,
      All-cons,
      All-nil,
      eval-lt,
      eval-root,
      product-assoc,
      xor_of_8,
      eval-rooted y es p ly lp,
    )
eval-rooted y (false ∷ es) p ly lp = eval-rooted y es p ly lp

-- the polynomial has a root for each erased codeword
abbrev pub has-roots : List Bool → List ℕ → Type 0
has-roots [] g = Unit {0}
has-roots (true ∷ es) g = (eval (power (length es)) g ≡ 0) × has-roots es g
has-roots (false ∷ es) g = has-roots es g

-- a polynomial keeps its roots when it is multiplied by x + root
roots-kept : (es : List Bool) (r : ℕ) (g : List ℕ) → r < 256 → All IsByte g → has-roots es g →
    has-roots es (times_root r 0 g)
roots-kept [] r g lr lg h = tt
roots-kept (true ∷ es) r g lr lg h =
    search (arith, power-lt, eval-root, product-by_zero, xor_of_8, roots-kept es r g lr lg h.1)
roots-kept (false ∷ es) r g lr lg h = roots-kept es r g lr lg h

-- the product has a root for each erased codeword
pub rooted-roots : (es : List Bool) (p : List ℕ) → All IsByte p → has-roots es (rooted es p)
rooted-roots [] p lp = tt
rooted-roots (true ∷ es) p lp =
    search (
      arith,
      power-lt,
      bytes-rooted,
      eval-root,
      xor_self,
      product-of_zero,
      eval-lt,
      roots-kept,
      rooted-roots es p lp,
    )
rooted-roots (false ∷ es) p lp = rooted-roots es p lp

-- ---- division by x + root

-- one coefficient more
quotient-terms : (y r a h v : ℕ) → y < 256 → r < 256 → a < 256 → h < 256 → v < 256 →
    bit_xor a (product y (bit_xor (product (bit_xor y r) h) v))
    ≡ bit_xor (product (bit_xor y r) (bit_xor v (product y h))) (bit_xor a (product r v))
quotient-terms y r a h v ly lr la lh lv = simp (field_laws, xor-cancel, xor_of_8)

-- the quotient has bytes as coefficients
bytes-quotient : (r : ℕ) (p : List ℕ) → r < 256 → All IsByte p → All IsByte (quotient r p)
bytes-quotient r [] lr lp = All-nil IsByte
bytes-quotient r (a ∷ p) lr lp =
    let lps = All-tail IsByte a p lp in
    search (arith, All-cons, eval-lt, bytes-quotient r p lr lps)

-- the quotient is followed by 0, so it has as many coefficients
length-quotient : (r : ℕ) (p : List ℕ) → length (quotient r p) ≡ length p
length-quotient r [] = refl
length-quotient r (a ∷ p) = ap suc (length-quotient r p)

-- a value is that of the quotient times that of the factor, plus the remainder
eval-quotient : (y r : ℕ) (p : List ℕ) → y < 256 → r < 256 → All IsByte p →
    eval y p ≡ bit_xor (product (bit_xor y r) (eval y (quotient r p))) (eval r p)
eval-quotient y r [] ly lr lp = simp (product-by_zero, xor_of_8, xor_zero_l)
eval-quotient y r (a ∷ p) ly lr lp =
    let la = All-head IsByte a p lp in
    let lps = All-tail IsByte a p lp in
    search (arith, eval-lt, bytes-quotient, quotient-terms, eval-quotient y r p ly lr lps)

-- the quotient of a polynomial with a leading 1 and more coefficients
quotient-leading : (r a : ℕ) (w : List ℕ) → r < 256 →
    (v : List ℕ) × (quotient r (a ∷ (w ++ 1 ∷ [])) ≡ (v ++ 1 ∷ []) ++ 0 ∷ [])
quotient-leading r a [] lr = ([], let none = product-by_zero r lr in cc (xor_zero_r 1))
quotient-leading r a (b ∷ w) lr =
    let rest = quotient-leading r b w lr in
    (eval r (b ∷ (w ++ 1 ∷ [])) ∷ rest.0, cc)

-- 0 after the coefficients does not change a value
eval-blank : (y : ℕ) (p : List ℕ) → y < 256 → eval y (p ++ 0 ∷ []) ≡ eval y p
eval-blank y [] ly = let none = product-by_zero y ly in cc (xor_zero_r 0)
eval-blank y (a ∷ p) ly = ap (λ t. bit_xor a (product y t)) (eval-blank y p ly)

-- what a polynomial becomes when it is divided by x + root, if this is its root
pub record IsDivided (r : ℕ) (p n : List ℕ) : Type 0 where
  pub leading : HasLeadingOne n
  pub shorter : length n + 1 ≡ length p
  pub value : eval r (quotient r p) ≡ eval r n
  pub others : (y : ℕ) → y < 256 → (y ≡ r → ⊥) → eval y p ≡ 0 → eval y n ≡ 0

-- division, where the leading 1 is shown
divided-split : (r : ℕ) (w p n : List ℕ) → r < 256 → All IsByte p → p ≡ w ++ 1 ∷ [] → eval r p ≡ 0 →
    n ≡ take (length (quotient r p) - 1) (quotient r p) → IsDivided r p n
divided-split r [] p n lr lp split root same = cc (product-by_zero r lr, xor_zero_r 1)
divided-split r (a ∷ w) p n lr lp split root same =
    let q = quotient r p in
    let led = quotient-leading r a w lr in
    let v = led.0 in
    let whole : q ≡ (v ++ 1 ∷ []) ++ 0 ∷ [] = ap (quotient r) split ∙ led.1 in
    let lq = bytes-quotient r p lr lp in
    let cut : length q - 1 ≡ length (v ++ 1 ∷ []) = search (arith, length_push) in
    let rest : n ≡ v ++ 1 ∷ [] = search (arith, take_at) in
    record {
      leading = record { others = v; whole = rest };
      shorter = search (arith, length-quotient, length_push);
      value = search (arith, eval-blank);
      others = λ y ly n z.
          let all : product (bit_xor y r) (eval y q) ≡ 0 =
          cc (eval-quotient y r p ly lr lp, xor_zero_r (product (bit_xor y r) (eval y q))) in
          search (arith, eval-lt, xor_of_8, product-factor, sum-none, product-comm, eval-blank);
    }

-- the polynomial after a division without remainder
pub divided : (r : ℕ) (p q n : List ℕ) → r < 256 → All IsByte p → HasLeadingOne p → eval r p ≡ 0 →
    q ≡ quotient r p → n ≡ take (length q - 1) q → IsDivided r p n
divided r p q n lr lp leading root same cut =
    divided-split r leading.others p n lr lp leading.whole root (cut ∙ ap (λ t. take (length t - 1) t) same)

-- ---- the loop of the division

-- the coefficient that is read
divided-get : (old q : List ℕ) (i : ℕ) → i < length old → get_or (take (suc i) old ++ q) i 0 ≡ get_or old i 0
divided-get [] q i l = absurd (omega arith)
divided-get (x ∷ old) q zero l = refl
divided-get (x ∷ old) q (suc i) l = divided-get old q i (omega arith)

-- the coefficient that is written
divided-set : (old q : List ℕ) (i v : ℕ) → i < length old → set (take (suc i) old ++ q) i v ≡ take i old ++ v ∷ q
divided-set [] q i v l = absurd (omega arith)
divided-set (x ∷ old) q zero v l = refl
divided-set (x ∷ old) q (suc i) v l = ap (λ t. x ∷ t) (divided-set old q i v (omega arith))

-- one coefficient more of the quotient
pub divided-more : (r k v : ℕ) (old now : List ℕ) → 0 < k → k ≤ length old →
    now ≡ take k old ++ quotient r (drop k old) → v ≡ eval r (drop k old) →
    set now (k - 1) v ≡ take (k - 1) old ++ quotient r (drop (k - 1) old)
divided-more r k v old now some l same value =
    let i = k - 1 in
    let next : suc i ≡ k = omega arith in
    let other : i + 1 ≡ k = omega arith in
    cc (drop_more old i 0 (omega arith), divided-set old (quotient r (drop k old)) i v (omega arith))

-- one coefficient more of the value
pub value-more_divided : (r k v m : ℕ) (old now : List ℕ) → 0 < k → k ≤ length old →
    now ≡ take k old ++ quotient r (drop k old) → v ≡ eval r (drop k old) → m ≡ product r v →
    bit_xor (get_or now (k - 1) 0) m ≡ eval r (drop (k - 1) old)
value-more_divided r k v m old now some l same value product = search (arith, drop_more, divided-get)

-- one coefficient more of the value of the quotient
pub quotient-value-more_divided : (r k v m : ℕ) (old : List ℕ) → 0 < k → k ≤ length old → v ≡ eval r (drop k old) →
    m ≡ product r (eval r (quotient r (drop k old))) → bit_xor v m ≡ eval r (quotient r (drop (k - 1) old))
quotient-value-more_divided r k v m old some l value product =
    let i = k - 1 in
    let other : i + 1 ≡ k = omega arith in
    cc (product, drop_more old i 0 (omega arith))
