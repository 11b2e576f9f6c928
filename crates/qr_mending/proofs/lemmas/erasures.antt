-- Erased codewords. Each error is multiplied by the value of a polynomial that has a root for each erased codeword.
-- Then only as many errors are left as codewords were misread. A polynomial that locates the errors left, times those
-- roots, locates all errors.
use Rattle.qr_field.proofs.lemmas.galois.{ByteLemmas.{product-by_zero, product-of_zero}, FieldLemmas.{product-factor, sum-none}, PowerLemmas.power-lt}
use Rattle.qr_field.proofs.lemmas.laws.DistanceLemmas.{weight, difference-same, difference-alike, difference-most, erasures-read, errors-read}
use Rattle.qr_field.{proofs.lemmas.polynomial.ListLemmas.{length-plus, bytes-plus}, specs.Distance.{difference, differences, erasures, errors}}
use Rattle.{qr_field.specs.Polynomial.{IsByte, plus, power}, qr_mending.proofs.lemmas.block.{bytes-block, errors-values, mended-read, plus-cancel, read-mended}}
use Rattle.qr_mending.proofs.lemmas.errors.WeightLemmas.{length-weighted, bytes-weighted, difference-product, weighted-value, coefficient-lt, coefficient-weighted}
use Rattle.qr_mending.proofs.lemmas.{locator.weight-zeros, roots.{count-more, bytes-rooted, eval-rooted, has-roots, rooted-roots}, sums.{dot-blend, eval-lt}}
use Rattle.qr_mending.specs.declared.erasures.Changes.{Changes}
use Rattle.qr_mending.specs.{Block.IsMended, Erasures.{changes_of, erased_errors, read_of, IsMendedWithErasures}, Steps.Errors.{coefficient, weighted, AreFewErrors, AreErrors, IsLocated}}
use Rattle.qr_mending.specs.Steps.{Roots.rooted, Sums.{dot_of, eval, HasValues}}
use Rattle.std.proofs.Common.{◌≡◌, ℕ, zero, suc, ◌+◌, ◌-◌, ◌/◌, ◌<◌, ◌≤◌, Bool, true, false, Option, None, Some, List, [], ◌∷◌, ◌++◌, length, map, replicate, drop, get_or, refl, sym, ap, ◌∙◌, arith, lit<, bit_xor}
use Rattle.std.proofs.lemmas.List.{get_or_push, length_push, get_or_append_left, drop_more, Elements.{All-nil, All-cons, All-head, All-tail}}
use Rattle.std.specs.{Int.Bits.xor_self, List.{All, count_by}, Prelude.{IfSome, IfNone}}

-- ---- what was read

-- what was read has an item for each codeword, whether it was read or erased
pub length-read : (xs : List ℕ) (es : List Bool) → length (read_of xs es) ≡ length xs
length-read [] es = refl
length-read (x ∷ xs) [] = ap suc (length-read xs [])
length-read (x ∷ xs) (true ∷ es) = ap suc (length-read xs es)
length-read (x ∷ xs) (false ∷ es) = ap suc (length-read xs es)

-- if no codeword is marked, all codewords were read
pub read-unmarked : (xs : List ℕ) (k : ℕ) → read_of xs (replicate k false) ≡ map (λ x. Some x) xs
read-unmarked [] k = refl
read-unmarked (x ∷ xs) zero = ap (λ z. Some x ∷ z) (read-unmarked xs zero)
read-unmarked (x ∷ xs) (suc k) = ap (λ z. Some x ∷ z) (read-unmarked xs k)

-- nor is one if no mark is true
pub read-none : (xs : List ℕ) (es : List Bool) → length es ≡ length xs → count_by (λ e. e) es ≡ 0 →
    read_of xs es ≡ map (λ x. Some x) xs
read-none [] es h none = refl
read-none (x ∷ xs) [] h none = absurd (omega arith)
read-none (x ∷ xs) (true ∷ es) h none = absurd (omega (arith, count-more true es))
read-none (x ∷ xs) (false ∷ es) h none =
    ap (λ z. Some x ∷ z) (read-none xs es (omega arith) (omega (arith, count-more false es)))

-- no codeword is misread beside what was read itself
pub errors-self : (xs : List ℕ) (es : List Bool) → errors (read_of xs es) xs ≡ 0
errors-self [] es = refl
errors-self (x ∷ xs) [] = omega (arith, difference-same x x refl, errors-self xs [])
errors-self (x ∷ xs) (true ∷ es) = errors-self xs es
errors-self (x ∷ xs) (false ∷ es) = omega (arith, difference-same x x refl, errors-self xs es)

-- the number of erased codewords is the number of marked ones
pub erasures-marked : (xs : List ℕ) (es : List Bool) → length es ≡ length xs →
    erasures (read_of xs es) ≡ count_by (λ e. e) es
erasures-marked [] [] h = refl
erasures-marked [] (e ∷ es) h = absurd (omega arith)
erasures-marked (x ∷ xs) [] h = absurd (omega arith)
erasures-marked (x ∷ xs) (true ∷ es) h = omega (arith, erasures-marked xs es (omega arith), count-more true es)
erasures-marked (x ∷ xs) (false ∷ es) h = omega (arith, erasures-marked xs es (omega arith), count-more false es)

-- 1 if a codeword is misread, 0 if it is read as it should be or is erased
abbrev pub misread : Bool → ℕ → ℕ → ℕ
misread true x y = 0
misread false x y = difference x y

-- one codeword more, from the last on
pub errors-more : (xs ys : List ℕ) (es : List Bool) (k : ℕ) (b : Bool) → 0 < k → k ≤ length xs → length es ≡ length xs →
    length ys ≡ length xs → get_or es (k - 1) false ≡ b →
    errors (read_of (drop (k - 1) xs) (drop (k - 1) es)) (drop (k - 1) ys) ≡ misread b (get_or xs (k - 1) 0) (get_or ys (k - 1) 0) + errors (read_of (drop k xs) (drop k es)) (drop k ys)
errors-more xs ys es k b some l he hy h = search (arith, drop_more)

-- 1 if a codeword is erased and has another value than it should have, 0 otherwise
abbrev pub erased_difference : Bool → ℕ → ℕ → ℕ
erased_difference true x y = difference x y
erased_difference false x y = 0

-- as `errors-more`, of erased codewords
pub erased-more : (xs ys : List ℕ) (es : List Bool) (k : ℕ) (b : Bool) → 0 < k → k ≤ length xs → length es ≡ length xs →
    length ys ≡ length xs → get_or es (k - 1) false ≡ b →
    erased_errors (read_of (drop (k - 1) xs) (drop (k - 1) es)) (drop (k - 1) xs) (drop (k - 1) ys)
    ≡ erased_difference b (get_or xs (k - 1) 0) (get_or ys (k - 1) 0)
    + erased_errors (read_of (drop k xs) (drop k es)) (drop k xs) (drop k ys)
erased-more xs ys es k b some l he hy h = search (arith, drop_more)

-- no erased codeword has another value than it had itself
pub erased-self : (xs : List ℕ) (es : List Bool) → erased_errors (read_of xs es) xs xs ≡ 0
erased-self [] es = refl
erased-self (x ∷ xs) [] = erased-self xs []
erased-self (x ∷ xs) (true ∷ es) = omega (arith, difference-same x x refl, erased-self xs es)
erased-self (x ∷ xs) (false ∷ es) = erased-self xs es

-- there are at most as many erased codewords of another value as there are erased ones
pub erased-few : (rs : List (Option ℕ)) (xs ys : List ℕ) → erased_errors rs xs ys ≤ erasures rs
erased-few [] xs ys = omega arith
erased-few (r ∷ rs) [] ys = omega arith
erased-few (r ∷ rs) (x ∷ xs) [] = omega arith
erased-few (None ∷ rs) (x ∷ xs) (y ∷ ys) = omega (arith, difference-most x y, erased-few rs xs ys)
erased-few (Some z ∷ rs) (x ∷ xs) (y ∷ ys) = erased-few rs xs ys

-- ---- blocks of which no codeword is erased

-- the changes of a block of which `n` codewords were misread and none is erased
abbrev pub unerased : ℕ → Changes
unerased n = record { misread = n; erased = 0; erased_wrong = 0 }

-- if every codeword was read, none is erased with another value
erased-none : (xs vs ys : List ℕ) → erased_errors (map (λ x. Some x) xs) vs ys ≡ 0
erased-none [] vs ys = refl
erased-none (x ∷ xs) [] ys = refl
erased-none (x ∷ xs) (v ∷ vs) [] = refl
erased-none (x ∷ xs) (v ∷ vs) (y ∷ ys) = erased-none xs vs ys

-- the changes of a block of which every codeword was read
pub changes-unerased : (xs vs ys : List ℕ) → changes_of (map (λ x. Some x) xs) vs ys ≡ unerased (differences xs ys)
changes-unerased xs vs ys = cc (errors-read xs ys, erasures-read xs, erased-none xs vs ys)

-- what is mended without erasures is mended with them
pub unerased-mended : (n spare : ℕ) (old new : List ℕ) (es : List Bool) (o : Option Changes) →
    read_of old es ≡ map (λ x. Some x) old →
    IfSome o (λ changes. IsMended n (spare / 2) old new × (changes ≡ unerased (differences old new))) →
    IfSome o (λ changes. IsMendedWithErasures n spare (read_of old es) new × (changes ≡ changes_of (read_of old es) old new))
unerased-mended n spare old new es None same h = tt
unerased-mended n spare old new es (Some x) same h =
    rw same (read-mended n spare old new h.0, h.1 ∙ sym (changes-unerased old old new))

-- what is mended with erasures is mended without
unerased-read : (n spare : ℕ) (old mended : List ℕ) (es : List Bool) → read_of old es ≡ map (λ x. Some x) old →
    IsMendedWithErasures n spare (read_of old es) mended → IsMended n (spare / 2) old mended
unerased-read n spare old mended es same m = mended-read n spare old mended (rw same at m)

-- so it is mended to no other block
pub unerased-only : (n spare : ℕ) (old new : List ℕ) (es : List Bool) (o : Option Changes) →
    read_of old es ≡ map (λ x. Some x) old →
    IfSome o (λ _. (mended : List ℕ) → IsMended n (spare / 2) old mended → mended ≡ new) →
    IfSome o (λ _. (mended : List ℕ) → IsMendedWithErasures n spare (read_of old es) mended → mended ≡ new)
unerased-only n spare old new es None same h = tt
unerased-only n spare old new es (Some x) same h = search (arith, unerased-read)

-- and is refused with erasures if it is refused without
pub unerased-refused : (n spare : ℕ) (old : List ℕ) (es : List Bool) (o : Option Changes) →
    read_of old es ≡ map (λ x. Some x) old →
    IfNone o ((mended : List ℕ) → IsMended n (spare / 2) old mended → ⊥) →
    IfNone o ((mended : List ℕ) → IsMendedWithErasures n spare (read_of old es) mended → ⊥)
unerased-refused n spare old es None same h = search (arith, unerased-read)
unerased-refused n spare old es (Some x) same h = tt

-- ---- the errors that are left

-- the erasure locator
abbrev pub erasure_locator : List Bool → List ℕ
erasure_locator es = rooted es (1 ∷ [])

-- its coefficients are bytes
pub bytes-erasure_locator : (es : List Bool) → All IsByte (erasure_locator es)
bytes-erasure_locator es = search (arith, bytes-rooted)

-- if a polynomial has a root for each erased codeword, at most one error is left for each misread codeword
weighted-few : (g xs ys : List ℕ) (es : List Bool) → All IsByte g → All IsByte (plus xs ys) → length xs ≡ length ys →
    length es ≡ length xs → has-roots es g → weight (weighted g (plus xs ys)) ≤ errors (read_of xs es) ys
weighted-few g [] [] es lg le h k r = omega arith
weighted-few g [] (y ∷ ys) es lg le h k r = absurd (omega arith)
weighted-few g (x ∷ xs) [] es lg le h k r = absurd (omega arith)
weighted-few g (x ∷ xs) (y ∷ ys) [] lg le h k r = absurd (omega arith)
weighted-few g (x ∷ xs) (y ∷ ys) (true ∷ es) lg le h k r =
    let c = bit_xor x y in
    let e = plus xs ys in
    search (
      arith,
      length-plus,
      product-by_zero,
      All-head,
      difference-same,
      All-tail,
      weighted-few g xs ys es lg (All-tail IsByte c e le) (omega arith) (omega arith) r.1,
    )
weighted-few g (x ∷ xs) (y ∷ ys) (false ∷ es) lg le h k r =
    let c = bit_xor x y in
    let e = plus xs ys in
    search (
      arith,
      difference-product,
      eval-lt,
      power-lt,
      difference-alike,
      sum-none,
      xor_self,
      All-tail,
      weighted-few g xs ys es lg (All-tail IsByte c e le) (omega arith) (omega arith) r,
    )

-- the next value of the errors that are left
pub modified-more : (p s e items new : List ℕ) (i v : ℕ) → All IsByte p → All IsByte e → HasValues s e →
    i + length p ≤ length s → length items ≡ i → HasValues items (weighted p e) →
    v ≡ dot_of p (drop i s) → new ≡ items ++ v ∷ [] → HasValues new (weighted p e)
modified-more p s e items new i v lp le h l count now value push =
    search (arith, dot-blend, weighted-value, get_or_append_left, length_push, get_or_push)

-- ---- all errors

-- if a polynomial has a root for each error left, its product with the roots for erased codewords has a root for each
-- error
all-roots : (es : List Bool) (q e : List ℕ) → All IsByte q → All IsByte e →
    ((m : ℕ) → m < length (weighted (erasure_locator es) e) → (eval (power m) q ≡ 0 → ⊥) → coefficient m (weighted (erasure_locator es) e) ≡ 0) →
    (m : ℕ) → m < length e → (eval (power m) (rooted es q) ≡ 0 → ⊥) → coefficient m e ≡ 0
all-roots es q e lq le roots m l n =
    let x = power m in
    let lx = power-lt m in
    let g = erasure_locator es in
    let z = eval x g in
    let lz = eval-lt x g lx (bytes-erasure_locator es) in
    let split = eval-rooted x es q lx lq in
    let some : z ≡ 0 → ⊥ = λ h. n (cc (product-of_zero (eval x q) (eval-lt x q lx lq))) in
    search (arith, product-by_zero, product-factor, coefficient-lt, coefficient-weighted, bytes-erasure_locator, length-weighted)

-- What is computed of a damaged block with erased codewords: the syndromes `first`, the modified syndromes, the error
-- locator, and the codewords `items` without the errors that both locators locate.
pub record IsCandidate (t : ℕ) (damaged : List ℕ) (es : List Bool) (first items : List ℕ) : Type 0 where
  pub values : HasValues first damaged
  pub modified : List ℕ
  pub left : (e : List ℕ) → All IsByte e → HasValues first e → HasValues modified (weighted (erasure_locator es) e)
  pub locator : List ℕ
  pub bytes : All IsByte locator
  pub located : (e : List ℕ) → AreFewErrors t modified e → IsLocated locator e
  pub sum : (e : List ℕ) → AreErrors (length damaged) (rooted es locator) first e → items ≡ plus damaged e

-- these codewords are the true block
pub candidate-mended : (n spare t : ℕ) (damaged first items : List ℕ) (es : List Bool) → length damaged ≤ 255 →
    length es ≡ length damaged → All IsByte damaged → length first ≡ n → t ≡ (spare - count_by (λ e. e) es) / 2 →
    IsCandidate t damaged es first items →
    (b : List ℕ) → IsMendedWithErasures n spare (read_of damaged es) b → items ≡ b
candidate-mended n spare t damaged first items es most marks a l tolerance h b m =
    let long : length b ≡ length damaged = m.long ∙ length-read damaged es in
    let few : errors (read_of damaged es) b ≤ t = omega (arith, erasures-marked damaged es marks) in
    let e = plus damaged b in
    let count : length e ≡ length b = length-plus damaged b (omega arith) in
    let le = bytes-plus damaged b a (bytes-block n b m.block) in
    let ve = errors-values n damaged b first m.block long a h.values l in
    let small : length e ≤ 255 = omega arith in
    let g = erasure_locator es in
    let rest = weighted g e in
    let none = rooted-roots es (1 ∷ []) (All-cons IsByte 1 [] (lit< tt) (All-nil IsByte)) in
    let left : AreFewErrors t h.modified rest = record {
      bytes = bytes-weighted g e le;
      most = omega (arith, length-weighted g e);
      few = search (arith, weight-zeros, weighted-few, bytes-erasure_locator);
      values = h.left e le ve;
    } in
    let all : AreErrors (length damaged) (rooted es h.locator) first e = record {
      count = omega arith;
      located = record { bytes = le; most = small; roots = search (arith, all-roots) };
      values = ve;
    } in
    h.sum e all ∙ plus-cancel damaged b (sym long)
