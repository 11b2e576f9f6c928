-- Which logos are allowed, and the largest of them.
use Rattle.qr_layout.{proofs.Facts.{blocks-sound, only-order, to_come-start}, specs.{Blocks.{blocks_of, correctable_of}, Version.{side_of, total_codewords_of}, declared.{level.Level.Level, region.Module.Module}}}
use Rattle.qr_mending.{proofs.Facts.in-blocks-one, specs.Message.{modules_of, received}}
use Rattle.qr_layout.specs.Steps.Order.{first_cursor, to_come}
use Rattle.qr_logos.proofs.lemmas.logo.BlockLemmas.{indices-some}
use Rattle.qr_logos.specs.Logo.{covered_in, first_of, is_covered, is_under, IsAllowed, IsClear, IsLargestLogo, IsMostCovered}
use Rattle.std.proofs.Common.{◌≡◌, ℕ, ◌+◌, ◌-◌, ◌*◌, ◌<◌, ◌≤◌, ◌||◌, Bool, true, false, cond, List, [], ◌∷◌, refl, ap, inl, inr, ◌⊎◌, arith}
use Rattle.std.proofs.lemmas.{Bool.{cases_lt, Decides.nat_tests}, List.Sums.sum_by-cons}
use Rattle.std.specs.List.{count_by, list_any, range_with_len}

-- ---- logos that cover no pattern

-- a logo that leaves nine rows and columns on each side covers no module of them
pub clear-at : (v k : ℕ) → 1 ≤ v → k ≤ side_of v - 18 → IsClear v k
clear-at v k p l r c e =
    let first : 9 ≤ first_of v k = omega arith in
    let last : first_of v k + k ≤ side_of v - 9 = omega arith in
    grind (arith, nat_tests)

-- a larger one covers the module in row 8 and column 8
pub clear-most : (v k : ℕ) → 1 ≤ v → IsClear v k → k ≤ side_of v - 18
clear-most v k p clear = elim (cases_lt (side_of v - 18) k) [
  | inl l ↦
      let first : first_of v k ≤ 8 = omega arith in
      let last : 8 < first_of v k + k = omega arith in
      let here : is_under v k 8 8 ≡ true = grind (arith, nat_tests) in
      absurd (grind (arith, nat_tests, clear 8 8 here))
  | inr l ↦ omega arith
]

-- ---- logos without modules

none-under : (v r c : ℕ) → is_under v 0 r c ≡ false
none-under v r c = grind (arith, nat_tests)

or-none : (a b : Bool) → a ≡ false → b ≡ false → (a || b) ≡ false
or-none a b e f = grind (arith, nat_tests)

none-under-any : (v : ℕ) (ms : List Module) → list_any (λ m. is_under v 0 m.row m.col) ms ≡ false
none-under-any v [] = refl
none-under-any v (m ∷ ms) =
    or-none (is_under v 0 m.row m.col) (list_any (λ m. is_under v 0 m.row m.col) ms) (none-under v m.row m.col) (none-under-any v ms)

none-counted : (f : ℕ → Bool) (ks : List ℕ) → ((k : ℕ) → f k ≡ false) → count_by f ks ≡ 0
none-counted f [] e = refl
none-counted f (k ∷ ks) e =
    let here = ap (λ (b : Bool). cond {A = ℕ} b 1 0) (e k) in
    omega (arith, here, none-counted f ks e, sum_by-cons (λ (k : ℕ). cond (f k) 1 0) k ks)

-- ---- smaller logos

-- what is under a logo is under a larger one
under-larger : (v j k : ℕ) → j ≤ k → (r c : ℕ) → is_under v j r c ≡ true → is_under v k r c ≡ true
under-larger v j k l r c e =
    let first : first_of v k ≤ first_of v j = omega arith in
    let last : first_of v j + j ≤ first_of v k + k = omega arith in
    grind (arith, nat_tests)

or-cases : (a b : Bool) → (a || b) ≡ true → (a ≡ true) ⊎ (b ≡ true)
or-cases true b e = inl refl
or-cases false b e = inr e

or-left : (a b : Bool) → a ≡ true → (a || b) ≡ true
or-left a b e = grind (arith, nat_tests)

or-right : (a b : Bool) → b ≡ true → (a || b) ≡ true
or-right a b e = grind (arith, nat_tests)

any-weaker : (f g : Module → Bool) → ((m : Module) → f m ≡ true → g m ≡ true) → (ms : List Module) → list_any f ms ≡ true → list_any g ms ≡ true
any-weaker f g w [] e = e
any-weaker f g w (m ∷ ms) e = elim (or-cases (f m) (list_any f ms) e) [
  | inl h ↦ or-left (g m) (list_any g ms) (w m h)
  | inr h ↦ or-right (g m) (list_any g ms) (any-weaker f g w ms h)
]

one-weaker : (a b : Bool) → (a ≡ true → b ≡ true) → cond a 1 0 ≤ cond b 1 0
one-weaker false true w = omega arith
one-weaker false false w = omega arith
one-weaker true b w = omega (arith, ap (λ (c : Bool). cond {A = ℕ} c 1 0) (w refl))

count-weaker : (f g : ℕ → Bool) → ((k : ℕ) → f k ≡ true → g k ≡ true) → (ks : List ℕ) → count_by f ks ≤ count_by g ks
count-weaker f g w [] = omega arith
count-weaker f g w (k ∷ ks) =
    omega (
      arith,
      one-weaker (f k) (g k) (w k),
      count-weaker f g w ks,
      sum_by-cons (λ (k : ℕ). cond (f k) 1 0) k ks,
      sum_by-cons (λ (k : ℕ). cond (g k) 1 0) k ks,
    )

-- a larger logo covers at least as many codewords
pub larger-covers : (v : ℕ) (l : Level) (j k m n : ℕ) → j ≤ k → IsMostCovered v l j m → IsMostCovered v l k n → m ≤ n
larger-covers v l j k m n le a b =
    let order = only-order v a.places b.places a.order b.order in
    let inside = in-blocks-one (blocks_of v l) (range_with_len 0 (total_codewords_of v)) a.indices a.checks b.indices b.checks a.inside b.inside in
    let ks = received (blocks_of v l) b.indices b.checks a.block in
    let reached : count_by (is_covered v j b.places) ks ≡ m = rw (order, inside.0, inside.1) at a.reached in
    let more = count-weaker (is_covered v j b.places) (is_covered v k b.places)
    (λ i. any-weaker (λ m. is_under v j m.row m.col) (λ m. is_under v k m.row m.col) (λ m. under-larger v j k le m.row m.col) (modules_of b.places i)) ks in
    omega (arith, reached, more, b.most a.block a.block_in)

-- a smaller logo than an allowed one is allowed
pub smaller-allowed : (v : ℕ) (l : Level) (share j k m : ℕ) → j ≤ k → IsMostCovered v l j m → IsAllowed v l share k → IsAllowed v l share j
smaller-allowed v l share j k m le a h = record {
  clear = λ r c e. h.clear r c (under-larger v j k le r c e);
  covered = m;
  most = a;
  within = omega (arith, larger-covers v l j k m h.covered le a h.most, h.within);
}

-- ---- the search for the largest

-- each allowed logo is smaller
abbrev pub AreSmaller : ℕ → Level → ℕ → ℕ → Type 0
AreSmaller v l share k = (other : ℕ) → IsAllowed v l share other → other < k

pub smaller-start : (v : ℕ) (l : Level) (share k : ℕ) → 1 ≤ v → k ≡ side_of v - 18 → AreSmaller v l share (k + 1)
smaller-start v l share k p e other a = omega (arith, clear-most v other p a.clear)

-- if a logo covers too much, the allowed ones are smaller
pub smaller-next : (v : ℕ) (l : Level) (share k n t : ℕ) → IsMostCovered v l k n → t ≡ share * correctable_of v l → t < 100 * n →
    AreSmaller v l share k
smaller-next v l share k n t m e over other a = elim (cases_lt other k) [
  | inl s ↦ s
  | inr s ↦ absurd (omega (arith, e, larger-covers v l k other n a.covered s m a.most, a.within))
]

-- a logo that does not cover too much is allowed
pub allowed-next : (v : ℕ) (l : Level) (share k n t : ℕ) → 1 ≤ v → k ≤ side_of v - 18 → IsMostCovered v l k n → t ≡ share * correctable_of v l →
    100 * n ≤ t → IsAllowed v l share k
allowed-next v l share k n t p small m e within = record {
  clear = clear-at v k p small;
  covered = n;
  most = m;
  within = omega (arith, e);
}

-- a logo without modules is allowed
pub allowed-none : (v : ℕ) (l : Level) (share : ℕ) → 1 ≤ v → v ≤ 40 → IsAllowed v l share 0
allowed-none v l share p q =
    let some = indices-some v l p q in
    let places = to_come v (first_cursor v) in
    let sound = blocks-sound l v p q in
    let none : (i : ℕ) → covered_in v l 0 places some.0 some.1 i ≡ 0 =
    λ i. none-counted (is_covered v 0 places) (received (blocks_of v l) some.0 some.1 i) (λ j. none-under-any v (modules_of places j)) in
    record {
      clear = clear-at v 0 p (omega arith);
      covered = 0;
      most = record {
        places = places;
        order = to_come-start v;
        indices = some.0;
        checks = some.1;
        inside = some.2;
        most = λ i r. omega (arith, none i);
        block = 0;
        block_in = omega (arith, sound.some);
        reached = none 0;
      };
      within = omega arith;
    }

pub largest-found : (v : ℕ) (l : Level) (share k above : ℕ) → IsAllowed v l share k → AreSmaller v l share above → above ≤ k + 1 →
    IsLargestLogo v l share k
largest-found v l share k above a all m = record {
  allowed = a;
  largest = λ other b. omega (arith, all other b);
}
