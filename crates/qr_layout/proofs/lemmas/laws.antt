-- The indices of places in the order: each index below the count is that of one place of the region.
use Rattle.std.proofs.{Common.{◌≡◌, ℕ, zero, suc, ◌<◌, ◌≤◌, List, [], ◌∷◌, ◌++◌, length, get_or, refl, ap, ◌∙◌, subst, arith}, Math.Seq.get_or-append_seam}
use Rattle.qr_layout.specs.{declared.region.Module.Module, Steps.Order.{to_come, first_cursor}}
use Rattle.qr_layout.specs.{Region.InRegion, Version.module_count_of, Order.{IsOrder, index_of}}
use Rattle.qr_layout.proofs.lemmas.order.{ListLemmas.{split, length-mid}, WalkLemmas.to_come-start, OrderLemmas.{order-has, order-length, index-at}}

-- a list cut at an item by its index
cut-at : (ms : List Module) (n : ℕ) (d : Module) → n < length ms → (front : List Module) × (back : List Module) × (ms ≡ front ++ get_or ms n d ∷ back) × (length front ≡ n)
cut-at [] n d h = absurd (omega arith)
cut-at (m ∷ ms) zero d h = ([], ms, refl, refl)
cut-at (m ∷ ms) (suc n) d h = let w = cut-at ms n d (omega arith) in (m ∷ w.0, w.1, ap (λ xs. m ∷ xs) w.2, ap suc w.3)

-- the place at an index of the order has that index by `index_of` too
pub number-item : (v : ℕ) (ms : List Module) (n : ℕ) (d : Module) → IsOrder v ms → n < length ms → index_of v (get_or ms n d) ≡ n
number-item v ms n d o h = let w = cut-at ms n d h in index-at v w.0 w.1 (get_or ms n d) (subst (IsOrder v) w.2 o) ∙ w.3

-- a place of the region is in the order at its index
pub item-index : (v : ℕ) (ms : List Module) (m d : Module) → IsOrder v ms → InRegion v m → get_or ms (index_of v m) d ≡ m
item-index v ms m d o h =
    let w = split m ms (order-has v ms o m h) in
    cc (index-at v w.0 w.1 m (subst (IsOrder v) w.2 o), get_or-append_seam w.0 m w.1 d)

-- the index of a place is below the length of the order
pub index-small : (v : ℕ) (ms : List Module) (m : Module) → IsOrder v ms → InRegion v m → index_of v m < length ms
index-small v ms m o h =
    let w = split m ms (order-has v ms o m h) in
    omega (arith, index-at v w.0 w.1 m (subst (IsOrder v) w.2 o), ap length w.2, length-mid m w.0 w.1, length-append-le w.0 w.1)
  where
    length-append-le : (xs ys : List Module) → length xs ≤ length (xs ++ ys)
    length-append-le [] ys = omega arith
    length-append-le (x ∷ xs) ys = let k = length-append-le xs ys in omega arith

-- an index is below the count of the modules
pub index-below : (v : ℕ) (m : Module) → 1 ≤ v → v ≤ 40 → InRegion v m → index_of v m < module_count_of v
index-below v m l k h =
    let o = to_come-start v in
    search (arith, index-small, order-length v (to_come v (first_cursor v)) l k o)

-- two places with the same index are the same place
pub index-one : (v : ℕ) (m n : Module) → InRegion v m → InRegion v n → index_of v m ≡ index_of v n → m ≡ n
index-one v m n h k e =
    let o = to_come-start v in
    cc (item-index v (to_come v (first_cursor v)) m m o h, item-index v (to_come v (first_cursor v)) n m o k)

-- each index below the count is that of a place
pub index-onto : (v n : ℕ) → 1 ≤ v → v ≤ 40 → n < module_count_of v → (m : Module) × InRegion v m × (index_of v m ≡ n)
index-onto v n l k h =
    let ms = to_come v (first_cursor v) in
    let o = to_come-start v in
    let d : Module = record { row = 0; col = 0 } in
    let a : n < length ms = omega (arith, order-length v ms l k o) in
    (get_or ms n d, o.in_region n d a, number-item v ms n d o a)
