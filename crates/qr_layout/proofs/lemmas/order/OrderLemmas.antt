-- A version has one order, and the length of the order is the number of modules of the region.
use Rattle.qr_layout.proofs.lemmas.{alignment.{below, below-from}, order.{CountLemmas.count-of, FastCountLemmas.{region-count, agrees, agrees-40}}}
use Rattle.qr_layout.proofs.lemmas.order.ListLemmas.{Mem, Rises, Distinct, Mem-at, All-of-Mem, All-rec, Mem-left, Mem-right, Mem-append, Rises-of-pairs, one-rising, Mem-of-Contains}
use Rattle.qr_layout.{proofs.lemmas.region.{row-in, col-in}, specs.{Alignment.centres_of, Laws.region_size}}
use Rattle.qr_layout.specs.{Order.{key_of, is_before, IsOrder, places_passing, index_of}, Region.{is_in_region, InRegion}}
use Rattle.qr_layout.specs.{Version.{total_codewords_of, remainder_bits_of, module_count_of, side_of}, declared.region.Module.Module}
use Rattle.std.proofs.Common.{◌≡◌, ℕ, ◌+◌, ◌≤◌, true, leb, eqb, List, [], ◌∷◌, ◌++◌, ◌&&◌, length, refl, sym, ◌∙◌, subst, inl, inr, arith}
use Rattle.std.proofs.lemmas.Bool.{and_parts, eqb-true, Decides.nat_tests}
use borrow.Author.Tests.{leb-true}

-- a list that rises has no item twice
Rises-distinct : {X : Type 0} (R : X → X → Type 0) → ((x y : X) → R x y → R y x → ⊥) → (xs : List X) → Rises R xs → Distinct xs
Rises-distinct R a [] h = tt
Rises-distinct R a (x ∷ xs) h = search (arith, All-of-Mem, Mem-at, Rises-distinct R a xs h.1)

-- the key of the first module is before that of the second
abbrev Before : ℕ → Module → Module → Type 0
Before v m n = is_before (key_of v m) (key_of v n) ≡ true

-- no two modules are each before the other
asym : (v : ℕ) (m n : Module) → Before v m n → Before v n m → ⊥
unfolding is_before
asym v m n h k = search (arith, nat_tests)

-- each item of the order is in the region
pub order-mem : (v : ℕ) (ms : List Module) → IsOrder v ms → (m : Module) → Mem m ms → InRegion v m
order-mem v ms o m k = Mem-at (InRegion v) ms m (All-rec (InRegion v) ms o.in_region) k

-- each module of the region is in the order
pub order-has : (v : ℕ) (ms : List Module) → IsOrder v ms → (m : Module) → InRegion v m → Mem m ms
order-has v ms o m h = Mem-of-Contains ms m (o.complete m h)

-- there is only one order
pub only-order : (v : ℕ) (ms ns : List Module) → IsOrder v ms → IsOrder v ns → ms ≡ ns
only-order v ms ns o p = search (arith, one-rising, asym, Rises-of-pairs, order-has, order-mem)

-- the region of each version has as many places as its codewords and remainder bits need
count-at : (v : ℕ) → 1 ≤ v → v ≤ 40 → places_passing (side_of v) (is_in_region v) ≡ module_count_of v
count-at v l h = region-count v l h ∙ eqb-true _ _ (below-from 40 1 agrees agrees-40 v l (omega arith))

-- the forty sizes, computed
sizes-agree : below 40 (λ i. eqb (module_count_of (i + 1)) (region_size (i + 1))) ≡ true
unfolding centres_of total_codewords_of remainder_bits_of
sizes-agree = refl

-- the codewords and remainder bits fill all modules of the region
pub size-at : (v : ℕ) → 1 ≤ v → v ≤ 40 → module_count_of v ≡ region_size v
size-at v l h = eqb-true _ _ (below-from 40 1 (λ v. eqb (module_count_of v) (region_size v)) sizes-agree v l (omega arith))

-- the region has this number of places
pub region-size : (v : ℕ) → 1 ≤ v → v ≤ 40 → places_passing (side_of v) (is_in_region v) ≡ region_size v
region-size v l h = count-at v l h ∙ size-at v l h

-- the length of the order is this number
pub order-length : (v : ℕ) (ms : List Module) → 1 ≤ v → v ≤ 40 → IsOrder v ms → length ms ≡ module_count_of v
order-length v ms l h o =
    count-of (side_of v) (is_in_region v) ms (Rises-distinct (Before v) (asym v) ms (Rises-of-pairs (Before v) ms o.rising)) (λ m k. let w = order-mem v ms o m k in (row-in v m w, col-in v m w, w)) (λ m a b k. order-has v ms o m k)
    ∙ count-at v l h

-- the forty counts are at most 29,648, computed
count-small : below 40 (λ i. leb (module_count_of (i + 1)) 29648) ≡ true
unfolding total_codewords_of remainder_bits_of
count-small = refl

-- no version has more than 29,648 modules for its codewords and remainder bits
pub module-count-small : (v : ℕ) → 1 ≤ v → v ≤ 40 → module_count_of v ≤ 29648
module-count-small v l h = leb-true _ _ (below-from 40 1 (λ v. leb (module_count_of v) 29648) count-small v l (omega arith))

-- no order has more than 29,648 items
pub order-small : (v : ℕ) (ms : List Module) → 1 ≤ v → v ≤ 40 → IsOrder v ms → length ms ≤ 29648
order-small v ms l h o = let d = order-length v ms l h o in let c = module-count-small v l h in omega arith

-- ---- the index of a place

-- each item before m in a rising list is in the relation to m
Rises-front : {X : Type 0} (R : X → X → Type 0) (front back : List X) (m : X) → Rises R (front ++ m ∷ back) → (x : X) → Mem x front → R x m
Rises-front R [] back m h x k = absurd k
Rises-front R (y ∷ ys) back m h x (inl e) = subst (λ z. R z m) e (Mem-at (R y) (ys ++ m ∷ back) m h.0 (Mem-right m ys (m ∷ back) (inl refl)))
Rises-front R (y ∷ ys) back m h x (inr k) = Rises-front R ys back m h.1 x k

-- the prefix of a rising list rises
Rises-first : {X : Type 0} (R : X → X → Type 0) (front back : List X) → Rises R (front ++ back) → Rises R front
Rises-first R [] back h = tt
Rises-first R (x ∷ xs) back h = search (arith, All-of-Mem, Mem-at, Mem-left, Rises-first R xs back h.1)

-- m is in the relation to each item after it in a rising list
Rises-after : {X : Type 0} (R : X → X → Type 0) (front back : List X) (m : X) → Rises R (front ++ m ∷ back) → (x : X) → Mem x back → R m x
Rises-after R [] back m h x k = Mem-at (R m) back x h.0 k
Rises-after R (y ∷ ys) back m h x k = Rises-after R ys back m h.1 x k

-- the index of a place of the order is the number of places before it
pub index-at : (v : ℕ) (front back : List Module) (m : Module) → IsOrder v (front ++ m ∷ back) → index_of v m ≡ length front
unfolding index_of
index-at v front back m o =
    let whole = front ++ m ∷ back in
    let rises = Rises-of-pairs (Before v) whole o.rising in
    sym (count-of (side_of v) (λ (r : ℕ) (c : ℕ). is_in_region v r c && is_before (key_of v (record { row = r; col = c })) (key_of v m)) front
    (Rises-distinct (Before v) (asym v) front (Rises-first (Before v) front (m ∷ back) rises))
    (λ x k. let w = order-mem v whole o x (Mem-left x front (m ∷ back) k) in (row-in v x w, col-in v x w, (rw (w, (Rises-front (Before v) front back m rises x k)) refl)))
    (λ x a b k.
    let w : is_in_region v x.row x.col ≡ true = (and_parts _ (is_before (key_of v x) (key_of v m)) k).0 in
    elim (Mem-append x front (m ∷ back) (order-has v whole o x w)) [
      | inl j ↦ j
      | inr j ↦ elim j [
        | inl e ↦ search (arith, asym)
        | inr i ↦ absurd (asym v x m ((and_parts (is_in_region v x.row x.col) (is_before (key_of v x) (key_of v m)) k).1) (Rises-after (Before v) front back m rises x i))
      ]
    ]))
