-- The errors, the one at location m multiplied by the value of a polynomial at 2^m. At most as many of these products
-- differ from 0 as there are errors, so all are 0 if their first values are. They are 0 exactly if each error is at a
-- root of the polynomial.
use Rattle.std.proofs.Common.{◌≡◌, ℕ, suc, ◌+◌, ◌*◌, ◌<◌, ◌≤◌, List, [], ◌∷◌, length, refl, sym, ap, ◌∙◌, inl, inr, arith, lit<, bit_xor}
use Rattle.std.{proofs.lemmas.{Bool.{cases_eq, eq-eqb, ne_eqb}, List.Elements.{All-nil, All-cons, All-head, All-tail}}, specs.{List.All, Int.Bits.xor_zero_l}}
use Rattle.qr_field.specs.{Galois.product, Polynomial.{IsByte, power}, Steps.Polynomial.value_at, Distance.difference}
use Rattle.qr_field.proofs.lemmas.galois.{ByteLemmas.{product-by_zero, product-of_zero}, ProductLemmas.product-lt, PowerLemmas.power-lt}
use Rattle.qr_field.proofs.lemmas.{galois.FieldLemmas.product-factor, laws.ValueLemmas.value-lt}
use Rattle.qr_field.proofs.lemmas.laws.DistanceLemmas.{weight, weight-none, value-none, difference-same, difference-other, difference-most}
use Rattle.qr_mending.{specs.Steps.{Sums.{eval, blend}, Errors.{coefficient, weighted}}, proofs.lemmas.sums.{eval-lt, field_laws, power-next}}

-- there is a product for each error
pub length-weighted : (p e : List ℕ) → length (weighted p e) ≡ length e
length-weighted p [] = refl
length-weighted p (c ∷ e) = ap suc (length-weighted p e)

-- the products are bytes
pub bytes-weighted : (p e : List ℕ) → All IsByte e → All IsByte (weighted p e)
bytes-weighted p [] a = All-nil IsByte
bytes-weighted p (c ∷ e) a =
    search (arith, All-cons, product-lt, All-head, All-tail, bytes-weighted p e (All-tail IsByte c e a))

-- a multiple of an error differs from 0 only if the error does
pub difference-product : (c z : ℕ) → z < 256 → difference (product c z) 0 ≤ difference c 0
difference-product c z l = search (arith, difference-same, product-of_zero, difference-other, difference-most)

-- at most as many products differ from 0 as errors do
weight-weighted : (p e : List ℕ) → All IsByte p → All IsByte e → weight (weighted p e) ≤ weight e
weight-weighted p [] b a = omega arith
weight-weighted p (c ∷ e) b a =
    search (arith, difference-product, eval-lt, power-lt, All-tail, weight-weighted p e b (All-tail IsByte c e a))

-- with the empty polynomial, all products are 0
weight-nothing : (e : List ℕ) → All IsByte e → weight (weighted [] e) ≡ 0
weight-nothing [] a = refl
weight-nothing (c ∷ e) a =
    search (arith, difference-same, product-by_zero, All-head, All-tail, weight-nothing e (All-tail IsByte c e a))

-- a polynomial with one coefficient more
step-terms : (a c x z y v w : ℕ) → a < 256 → c < 256 → x < 256 → z < 256 → y < 256 → v < 256 →
    bit_xor (product (product c (bit_xor a (product x z))) y) (bit_xor (product a v) w)
    ≡ bit_xor (product a (bit_xor (product c y) v)) (bit_xor (product (product c z) (product x y)) w)
step-terms a c x z y v w la lc lx lz lp lv = simp field_laws

-- the value at 2^i of the errors that `a ∷ p` has multiplied: `a` times the value of the errors, plus the value at 2^(i
-- + 1) of the errors that `p` has multiplied
weighted-step : (a : ℕ) (p : List ℕ) (i : ℕ) (e : List ℕ) → a < 256 → All IsByte p → All IsByte e →
    value_at i (weighted (a ∷ p) e) ≡ bit_xor (product a (value_at i e)) (value_at (i + 1) (weighted p e))
weighted-step a p i [] la lp le = cc (product-by_zero a la, xor_zero_l 0)
weighted-step a p i (c ∷ e) la lp le =
    let m = length e in
    let lx = power-lt m in
    let les = All-tail IsByte c e le in
    cc (
      step-terms a c (power m) (eval (power m) p) (power (i * m)) (value_at i e) (value_at (i + 1) (weighted p e))
          la (All-head IsByte c e le) lx (eval-lt (power m) p lx lp) (power-lt (i * m)) (value-lt i e les),
      weighted-step a p i e la lp les,
      length-weighted (a ∷ p) e,
      length-weighted p e,
      power-next i m,
    )

-- the values of the products are sums of the coefficients times the values of the errors
pub weighted-value : (p : List ℕ) (i : ℕ) (e : List ℕ) → All IsByte p → All IsByte e →
    value_at i (weighted p e) ≡ blend p i e
weighted-value [] i e lp le = value-none i (weighted [] e) (weight-nothing e le)
weighted-value (a ∷ p) i e lp le =
    let lps = All-tail IsByte a p lp in
    cc (weighted-step a p i e (All-head IsByte a p lp) lps le, weighted-value p (i + 1) e lps le)

-- if there are at most t errors and their first t sums are 0, all products are 0
pub weighted-none : (t : ℕ) (p e : List ℕ) → All IsByte p → All IsByte e → length e ≤ 255 → weight e ≤ t →
    ((i : ℕ) → i < t → blend p i e ≡ 0) → weight (weighted p e) ≡ 0
weighted-none t p e lp le most few h =
    search (arith, weight-weighted, weight-none, length-weighted, bytes-weighted, weighted-value)

-- the coefficient of the highest power
pub coefficient-head : (m c : ℕ) (e : List ℕ) → m ≡ length e → coefficient m (c ∷ e) ≡ c
coefficient-head m c e h = rw (eq-eqb m (length e) h)

-- a coefficient of a lower power
pub coefficient-tail : (m c : ℕ) (e : List ℕ) → (m ≡ length e → ⊥) → coefficient m (c ∷ e) ≡ coefficient m e
coefficient-tail m c e h = rw (ne_eqb m (length e) h)

-- if all products are 0, each error is at a root
weighted-root : (p e : List ℕ) → All IsByte p → All IsByte e → weight (weighted p e) ≡ 0 → (m : ℕ) →
    m < length e → (eval (power m) p ≡ 0 → ⊥) → coefficient m e ≡ 0
weighted-root p [] lp le w m l n = absurd (omega arith)
weighted-root p (c ∷ e) lp le w m l n = elim (cases_eq m (length e)) [
  | inl h ↦ search (arith, coefficient-head, product-factor, All-head, eval-lt, power-lt, difference-other)
  | inr o ↦
      rw (coefficient-tail m c e o)
      (weighted-root p e lp (All-tail IsByte c e le) (omega arith) m (omega arith) n)
]

-- if there are at most t errors and their first t sums are 0, each error is at a root
pub errors-root : (t : ℕ) (p e : List ℕ) → All IsByte p → All IsByte e → length e ≤ 255 →
    weight e ≤ t → ((i : ℕ) → i < t → blend p i e ≡ 0) → (m : ℕ) → m < length e →
    (eval (power m) p ≡ 0 → ⊥) → coefficient m e ≡ 0
errors-root t p e lp le most few h = weighted-root p e lp le (weighted-none t p e lp le most few h)

-- if each error is at a root, all products are 0
root-weighted : (p e : List ℕ) → All IsByte p → All IsByte e →
    ((m : ℕ) → m < length e → (eval (power m) p ≡ 0 → ⊥) → coefficient m e ≡ 0) → weight (weighted p e) ≡ 0
root-weighted p [] lp le r = refl
root-weighted p (c ∷ e) lp le r =
    let x = power (length e) in
    let z = eval x p in
    let rest = root-weighted p e lp (All-tail IsByte c e le)
    (λ m l n. sym (coefficient-tail m c e (λ h. omega arith)) ∙ r m (omega arith) n) in
    omega (arith, difference-same (product c z) 0 (elim (cases_eq z 0) [ inl f ↦ rw f (product-by_zero c (All-head IsByte c e le)) | inr o ↦ search (arith, coefficient-head, product-of_zero, eval-lt, power-lt) ]))

-- if each error is at a root, all sums are 0
pub root-blends : (p e : List ℕ) → All IsByte p → All IsByte e →
    ((m : ℕ) → m < length e → (eval (power m) p ≡ 0 → ⊥) → coefficient m e ≡ 0) → (i : ℕ) → blend p i e ≡ 0
root-blends p e lp le r i = sym (weighted-value p i e lp le) ∙ value-none i (weighted p e) (root-weighted p e lp le r)

-- a coefficient is a byte
pub coefficient-lt : (m : ℕ) (e : List ℕ) → All IsByte e → coefficient m e < 256
coefficient-lt m [] le = lit< tt
coefficient-lt m (c ∷ e) le = search (arith, coefficient-head, All-head, coefficient-tail, All-tail, coefficient-lt m e (All-tail IsByte c e le))

-- the product at index m
pub coefficient-weighted : (m : ℕ) (p e : List ℕ) → All IsByte p →
    coefficient m (weighted p e) ≡ product (coefficient m e) (eval (power m) p)
coefficient-weighted m p [] lp = search (arith, product-of_zero, eval-lt, power-lt)
coefficient-weighted m p (c ∷ e) lp =
    search (arith, length-weighted, coefficient-head, coefficient-tail, coefficient-weighted m p e lp)
