-- The errors are found one at a time. A polynomial that has a root for each later error, but none for this one, leaves
-- of the products of all errors only that of this one.
use Rattle.std.proofs.Common.{◌≡◌, ℕ, zero, suc, ◌+◌, ◌-◌, ◌<◌, ◌≤◌, List, [], ◌∷◌, ◌++◌, length, take, drop, get_or, set, refl, sym, ap, ◌∙◌, inl, inr, arith, bit_xor}
use Rattle.std.{proofs.Math.{Numerals.suc-eq-add-one, Seq.{take-append_seam, drop-append_seam}}, specs.{List.{All, refill}, Int.Bits.{xor_zero_r, xor_self}}}
use Rattle.std.proofs.lemmas.{Nat.xor_of_8, List.{length_push, length-take-le, take-append-drop, take_more, drop_all, append-nil, take_all, Elements.{All-head, All-tail}}, Bool.cases_eq}
use Rattle.qr_field.specs.{Galois.product, Polynomial.{IsByte, plus, power}, Steps.Polynomial.value_at}
use Rattle.qr_field.proofs.lemmas.galois.{ByteLemmas.{product-by_zero, product-of_zero, product-by_one}, ProductLemmas.{product-lt, product-xor}}
use Rattle.qr_field.proofs.lemmas.{galois.FieldLemmas.{product-factor, sum-none}, polynomial.ListLemmas.length-plus}
use Rattle.qr_field.proofs.lemmas.{galois.PowerLemmas.{power-lt, power-add, power-round, powers-apart}, laws.ValueLemmas.{value-zero}}
use Rattle.qr_mending.specs.declared.errors.Removal.{Removal}
use Rattle.qr_mending.specs.Steps.{Sums.{dot_of, eval, HasValues}, Roots.HasLeadingOne, Errors.{coefficient, AreLeft, IsLocated}}
use Rattle.qr_mending.proofs.lemmas.{sums.dot-blend, errors.WeightLemmas.{coefficient-head, coefficient-tail, root-blends, weighted-value}}

-- ---- the locator

-- what locates all errors locates those after the first
pub located-rest : (p e : List ℕ) (c : ℕ) → IsLocated p (c ∷ e) → IsLocated p e
located-rest p e c h = record {
  bytes = All-tail IsByte c e h.bytes;
  most = omega arith;
  roots = search (arith, coefficient-tail);
}

-- a locator may lose the root of the error before those that it locates
pub located-divided : (p q e : List ℕ) → length e < 255 → IsLocated p e →
    ((y : ℕ) → y < 256 → (y ≡ power (length e) → ⊥) → eval y p ≡ 0 → eval y q ≡ 0) → IsLocated q e
located-divided p q e small h others = search (arith, power-lt, powers-apart)

-- ---- the error

-- two elements with the same product by an element that is not 0 are equal
pub factor-one : (a b w : ℕ) → a < 256 → b < 256 → w < 256 → (w ≡ 0 → ⊥) → product a w ≡ product b w → a ≡ b
factor-one a b w la lb lw n e =
    let none : product (bit_xor a b) w ≡ 0 = sym (product-xor a b w la lb) ∙ cc (xor_self (product b w)) in
    search (arith, sum-none, product-factor, xor_of_8)

-- the sum of products with the syndromes is the first error times a value of the polynomial, if it locates the others
pub error-sum : (p s e : List ℕ) (c : ℕ) → All IsByte p → All IsByte (c ∷ e) → IsLocated p e →
    HasValues s (c ∷ e) → length p ≤ length s → dot_of p s ≡ product c (eval (power (length e)) p)
error-sum p s e c lp le h values long =
    let z = eval (power (length e)) p in
    search (arith, weighted-value, root-blends, product-by_one, product-lt, All-head, xor_zero_r, dot-blend p 0 s (c ∷ e) values (omega arith) ∙ sym (weighted-value p 0 (c ∷ e) lp le))

-- ---- the syndromes

-- a list that is overwritten with a list of the same length becomes the second list
pub refill-same : (xs ws : List ℕ) (n : ℕ) → n ≡ length xs → length ws ≡ length xs → refill n xs ws ≡ ws
refill-same xs ws n l e = search (arith, drop_all, append-nil, take_all)

-- ---- the codewords

-- item k of the sum of two lists
get_or-plus : (xs ys : List ℕ) (k : ℕ) → length xs ≡ length ys → k < length xs →
    get_or (plus xs ys) k 0 ≡ bit_xor (get_or xs k 0) (get_or ys k 0)
get_or-plus [] ys k e l = absurd (omega arith)
get_or-plus (x ∷ xs) [] k e l = absurd (omega arith)
get_or-plus (x ∷ xs) (y ∷ ys) zero e l = refl
get_or-plus (x ∷ xs) (y ∷ ys) (suc k) e l = get_or-plus xs ys k (omega arith) (omega arith)

-- one codeword more, without its error
pub sum-more : (xs errors items new : List ℕ) (k : ℕ) → length errors ≡ length xs → k < length xs →
    items ≡ take k (plus xs errors) → new ≡ items ++ bit_xor (get_or xs k 0) (get_or errors k 0) ∷ [] →
    new ≡ take (k + 1) (plus xs errors)
sum-more xs errors items new k long l same push =
    cc (
      get_or-plus xs errors k (sym long) l,
      take_more (plus xs errors) k 0 (omega (arith, length-plus xs errors (omega arith))),
    )

-- no error
no-errors : (xs e : List ℕ) → length e ≡ length xs → ((m : ℕ) → m < length e → coefficient m e ≡ 0) →
    (plus xs e ≡ xs) × (value_at 0 e ≡ 0)
no-errors [] [] l h = (refl, refl)
no-errors [] (c ∷ e) l h = absurd (omega arith)
no-errors (x ∷ xs) [] l h = absurd (omega arith)
no-errors (x ∷ xs) (c ∷ e) l h =
    let none : c ≡ 0 = sym (coefficient-head (length e) c e refl) ∙ h (length e) (omega arith) in
    let rest = no-errors xs e (omega arith)
    (search (arith, coefficient-tail)) in
    (cc (xor_zero_r x), cc (value-zero 0 e))

-- where the locator is 1, there is no error
pub none-left : (xs e : List ℕ) → length e ≡ length xs → IsLocated (1 ∷ []) e → plus xs e ≡ xs
none-left xs e l h = search (arith, no-errors, product-by_zero, power-lt, xor_zero_r)

-- one error, which is the sum of all
one-error : (xs e : List ℕ) (p : ℕ) → length e ≡ length xs → p < length e → All IsByte e →
    ((m : ℕ) → m < length e → (m ≡ p → ⊥) → coefficient m e ≡ 0) →
    set xs (length xs - 1 - p) (bit_xor (get_or xs (length xs - 1 - p) 0) (value_at 0 e)) ≡ plus xs e
one-error xs [] p l within le h = absurd (omega arith)
one-error [] (c ∷ e) p l within le h = absurd (omega arith)
one-error (x ∷ xs) (c ∷ e) p l within le h = elim (cases_eq (length e) p) [
  | inl s ↦ search (arith, no-errors, coefficient-tail, product-by_one, All-head, xor_zero_r)
  | inr o ↦
      let none : c ≡ 0 = sym (coefficient-head (length e) c e refl) ∙ h (length e) (omega arith) o in
      let rest = one-error xs e p (omega arith) (omega arith) (All-tail IsByte c e le) (search (arith, coefficient-tail)) in
      search (arith, value-zero, xor_zero_r)
]

-- where the locator is x + root, an error is at its root alone
elsewhere-none : (root m : ℕ) (e : List ℕ) → IsLocated (root ∷ 1 ∷ []) e → m < length e → (power m ≡ root → ⊥) →
    coefficient m e ≡ 0
elsewhere-none root m e h l n = search (arith, product-by_zero, power-lt, xor_zero_r, product-by_one, sum-none)

-- no power of 2 is 0
pub power-some : (m : ℕ) → m < 255 → power m ≡ 0 → ⊥
power-some m l e =
    let whole : m + (255 - m) ≡ 255 = omega arith in
    let one : product (power m) (power (255 - m)) ≡ 1 = cc (power-add m (255 - m), power-round) in
    search (arith, product-of_zero, power-lt)

-- the codewords, if no location has the root
pub last-none : (xs e : List ℕ) (root : ℕ) → length e ≡ length xs → IsLocated (root ∷ 1 ∷ []) e →
    ((m : ℕ) → m < length e → power m ≡ root → ⊥) → xs ≡ plus xs e
last-none xs e root l h none =
    sym (no-errors xs e l (λ m n. elsewhere-none root m e h n (none m n))).0

-- the codewords without the last error
pub last-sum : (xs e : List ℕ) (root p error : ℕ) → length e ≡ length xs → IsLocated (root ∷ 1 ∷ []) e →
    power p ≡ root → p < 255 → p < length e → error ≡ value_at 0 e →
    set xs (length xs - 1 - p) (bit_xor (get_or xs (length xs - 1 - p) 0) error) ≡ plus xs e
last-sum xs e root p error l h log small within value =
    let one = one-error xs e p l within h.bytes (λ m k o. elsewhere-none root m e h k
    (search (arith, powers-apart))) in
    cc

-- a polynomial with a leading 1 and one other coefficient
pub leading-two : (p : List ℕ) → HasLeadingOne p → length p ≡ 2 → p ≡ get_or p 0 0 ∷ 1 ∷ []
leading-two p h l = go h.others h.whole
  where
    go : (v : List ℕ) → p ≡ v ++ 1 ∷ [] → p ≡ get_or p 0 0 ∷ 1 ∷ []
    go [] e = absurd (omega (arith, ap length e))
    go (x ∷ []) e = e ∙ ap (λ (t : List ℕ). get_or t 0 0 ∷ 1 ∷ []) (sym e)
    go (x ∷ y ∷ v) e = absurd (omega (arith, ap length e, length_push (x ∷ y ∷ v) 1))

-- a leading 1 with no other coefficient
pub leading-alone : (p : List ℕ) → HasLeadingOne p → length p < 2 → p ≡ 1 ∷ []
leading-alone p h l = go h.others h.whole
  where
    go : (v : List ℕ) → p ≡ v ++ 1 ∷ [] → p ≡ 1 ∷ []
    go [] e = e
    go (x ∷ v) e = absurd (omega (arith, ap length e, length_push (x ∷ v) 1))

-- the sum from codeword k on
drop-plus : (k : ℕ) (xs ys : List ℕ) → length xs ≡ length ys → drop k (plus xs ys) ≡ plus (drop k xs) (drop k ys)
drop-plus zero xs ys l = refl
drop-plus (suc k) [] [] l = refl
drop-plus (suc k) [] (y ∷ ys) l = absurd (omega arith)
drop-plus (suc k) (x ∷ xs) [] l = absurd (omega arith)
drop-plus (suc k) (x ∷ xs) (y ∷ ys) l = drop-plus k xs ys (omega arith)

-- the codewords after one from which the error is taken
set-sum : (xs e : List ℕ) (k : ℕ) → k < length xs → k < length e →
    set (take k (plus xs e) ++ drop k xs) k (bit_xor (get_or (take k (plus xs e) ++ drop k xs) k 0) (get_or e k 0))
    ≡ take (suc k) (plus xs e) ++ drop (suc k) xs
set-sum [] e k l m = absurd (omega arith)
set-sum (x ∷ xs) [] k l m = absurd (omega arith)
set-sum (x ∷ xs) (c ∷ e) zero l m = refl
set-sum (x ∷ xs) (c ∷ e) (suc k) l m = cc (set-sum xs e k (omega arith) (omega arith))

pub sum-set : (xs e items : List ℕ) (k error : ℕ) → length e ≡ length xs → k < length xs → error ≡ get_or e k 0 →
    items ≡ take k (plus xs e) ++ drop k xs →
    set items k (bit_xor (get_or items k 0) error) ≡ take (k + 1) (plus xs e) ++ drop (k + 1) xs
sum-set xs e items k error long l found same = cc (set-sum xs e k l (omega arith), suc-eq-add-one k)

-- the codewords so far and those after them, without the errors of these
pub sum-last : (xs e items new : List ℕ) (k : ℕ) → length e ≡ length xs → k ≤ length xs →
    items ≡ take k (plus xs e) ++ drop k xs → new ≡ plus (drop k items) (drop k e) → take k items ++ new ≡ plus xs e
sum-last xs e items new k long l same rest =
    cc (
      length-take-le k (plus xs e) (omega (arith, length-plus xs e (omega arith))),
      length-plus xs e (omega arith),
      take-append_seam (take k (plus xs e)) (drop k xs),
      drop-append_seam (take k (plus xs e)) (drop k xs),
      drop-plus k xs e (sym long),
      take-append-drop k (plus xs e),
    )

-- ---- the search

-- where there is no error later
pub none-later : (left c : ℕ) (e : List ℕ) (r : Removal) → AreLeft (left + 1) (c ∷ e) r → (m : ℕ) → r.first ≤ m → m < left →
    (get_or r.values (m - r.first) 0 ≡ 0 → ⊥) → coefficient m e ≡ 0
none-later left c e r h m least l some = search (arith, coefficient-tail)

-- the errors that are left after a codeword without an error
pub left-next : (left c : ℕ) (e : List ℕ) (r : Removal) → AreLeft (left + 1) (c ∷ e) r → c ≡ 0 → AreLeft left e r
left-next left c e r h none = record {
  errors = record {
    count = omega arith;
    located = located-rest r.locator.items e c h.errors.located;
    values = search (arith, value-zero);
  };
  none = none-later left c e r h;
}
