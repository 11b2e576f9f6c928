-- The modules that the walk visits are the order of the version. Here v is a version, and s the side of its square.
use Rattle.qr_layout.proofs.lemmas.order.{ListLemmas.Rises, PathLemmas.{half_of-bound, mul-lt, mul-le_one, next-left, next-IsCursor, is_before-left}}
use Rattle.qr_layout.{proofs.lemmas.region.{row-in, col-in, col-not_timing}, specs.Order.{key_of, is_before, IsOrder, IsOrderAfter}}
use Rattle.qr_layout.specs.{Region.{is_in_region, InRegion}, Steps.Order.{place_of, left_of, next_of, IsCursor, places_among, to_come, first_cursor, cursor_at}}
use Rattle.qr_layout.specs.{Version.side_of, declared.{order.Cursor.Cursor, region.Module.Module}}
use Rattle.std.proofs.Common.{◌≡◌, ℕ, zero, suc, ◌+◌, ◌-◌, ◌*◌, ◌<◌, ◌≤◌, Bool, true, false, cond, List, [], ◌∷◌, ◌++◌, refl, sym, ap, ◌∙◌, subst, inl, inr, arith}
use Rattle.std.proofs.{Math.Nat.mul-le-mul_right, lemmas.{Bool.{cases_lt, Decides.nat_tests}, List.Elements.All-from_recursion}}
use Rattle.std.specs.List.{AllPairs, AllByRecursion, Contains}

-- ---- lists

-- if P x implies Q x for each x, and P holds for each item of xs, then Q holds for each item of xs
All-weaker_rec : {X : Type 0} (P Q : X → Type 0) → ((x : X) → P x → Q x) → (xs : List X) → AllByRecursion P xs → AllByRecursion Q xs
All-weaker_rec P Q f [] h = tt
All-weaker_rec P Q f (x ∷ xs) h = (f x h.0, All-weaker_rec P Q f xs h.1)

-- if each item of xs has the relation R to all items after it, then R holds for each pair of rising indices of xs
AllPairs-from_rises : {X : Type 0} (R : X → X → Type 0) (xs : List X) → Rises R xs → AllPairs R xs
AllPairs-from_rises R [] h i j d a b = absurd (omega arith)
AllPairs-from_rises R (x ∷ xs) h zero zero d a b = absurd (omega arith)
AllPairs-from_rises R (x ∷ xs) h zero (suc j) d a b = search (arith, All-from_recursion)
AllPairs-from_rises R (x ∷ xs) h (suc i) zero d a b = absurd (omega arith)
AllPairs-from_rises R (x ∷ xs) h (suc i) (suc j) d a b = AllPairs-from_rises R xs h.1 i j d (omega arith) (omega arith)

-- if the list xs contains m, then the list x ∷ xs contains m
Contains-tail : {X : Type 0} (x m : X) (xs : List X) → Contains xs m → Contains (x ∷ xs) m
Contains-tail x m xs h = (suc h.0, (omega arith), h.2)

-- ---- cursors

-- if cursor a has n + 1 cursors left, then it is in a strip
pub strips-positive : (s : ℕ) (a : Cursor) (n : ℕ) → left_of s a ≡ suc n → 0 < a.strips_left
unfolding left_of
strips-positive s a n e = search arith

-- with w cursors in each strip, cursors with equally many left are the same
same-arith : (p q w x y : ℕ) → x < w → y < w → 0 < p → 0 < q → p * w - x ≡ q * w - y → (p ≡ q) × (x ≡ y)
same-arith p q w x y a b k l e = search (arith, mul-lt, mul-le_one)

-- a cursor a in a strip has at least one cursor left, because a itself is counted
left-positive : (v : ℕ) (a : Cursor) → IsCursor v a → 0 < a.strips_left → 0 < left_of (side_of v) a
unfolding left_of
left-positive v a i k = search (arith, mul-le_one, half_of-bound, nat_tests)

-- two cursors a and b with equally many cursors left are the same cursor
same-cursor : (v : ℕ) (a b : Cursor) → IsCursor v a → IsCursor v b → 0 < a.strips_left → 0 < b.strips_left → left_of (side_of v) a ≡ left_of (side_of v) b → a ≡ b
unfolding left_of
same-cursor v a b i j k l e = search (arith, half_of-bound, same-arith, nat_tests)

-- ---- the walk, n cursors at a time

-- 0 cursors yield no module
pub places-nil : (v : ℕ) (a : Cursor) → places_among v 0 a ≡ []
unfolding places_among
places-nil v a = refl

-- the region's modules at n + 1 cursors from a on are that at a, if it is in the region, and those from the next on
pub places-suc : (v n : ℕ) (a : Cursor) → places_among v (suc n) a ≡ cond (is_in_region v a.row (place_of a).col) (place_of a ∷ places_among v n (next_of (side_of v) a)) (places_among v n (next_of (side_of v) a))
unfolding places_among
places-suc v n a = refl

-- module m is in the region, and it is the module at a cursor b with at most n cursors left
abbrev Stop : ℕ → ℕ → Module → Type 0
Stop v n m = (b : Cursor) × IsCursor v b × (0 < b.strips_left) × (left_of (side_of v) b ≤ n) × (place_of b ≡ m) × InRegion v m

-- each module that the walk yields from a cursor a with n cursors left is at a cursor with at most n cursors left
stops : (v n top : ℕ) (a : Cursor) → IsCursor v a → left_of (side_of v) a ≡ n → n ≤ top → AllByRecursion (Stop v top) (places_among v n a)
stops v zero top a i e l = rw places-nil tt
stops v (suc n) top a i e l =
    let k = strips-positive (side_of v) a n e in
    let d = next-left (side_of v) a k i.row_in in
    search (arith, places-suc, next-IsCursor, stops v n top (next_of (side_of v) a) (next-IsCursor v a i k) (omega arith) (omega arith))

-- a rising list still rises with an item in front that has the relation to each of its items
rises-cond : (R : Module → Module → Type 0) (x : Module) (t : Bool) (xs : List Module) → AllByRecursion (R x) xs → Rises R xs → Rises R (cond t (x ∷ xs) xs)
rises-cond R x t xs h k = grind arith

-- the modules that the walk yields from a cursor a with n cursors left have rising keys
rises : (v n : ℕ) (a : Cursor) → IsCursor v a → left_of (side_of v) a ≡ n → Rises (λ m n. is_before (key_of v m) (key_of v n) ≡ true) (places_among v n a)
rises v zero a i e = rw places-nil tt
rises v (suc n) a i e =
    let s = side_of v in
    let k = strips-positive s a n e in
    let d = next-left s a k i.row_in in
    let j = next-IsCursor v a i k in
    let f : (m : Module) → Stop v n m → is_before (key_of v (place_of a)) (key_of v m) ≡ true = λ m w. subst (λ (z : Module). is_before (key_of v (place_of a)) (key_of v z) ≡ true) w.4 (is_before-left v a w.0 i w.1 k w.2 (omega arith)) in
    rw places-suc (rises-cond (λ m n. is_before (key_of v m) (key_of v n) ≡ true) (place_of a) (is_in_region v a.row (place_of a).col) _ (All-weaker_rec (Stop v n) _ f _ (stops v n n (next_of s a) j (omega arith) (omega arith))) (rises v n (next_of s a) j (omega arith)))

-- if the list xs contains m, then the list xs with x in front, if the test t passes, contains m
contains-cond : (x m : Module) (t : Bool) (xs : List Module) → Contains xs m → Contains (cond t (x ∷ xs) xs) m
contains-cond x m true xs h = Contains-tail x m xs h
contains-cond x m false xs h = h

-- the walk from a on yields the module at each later cursor, if this module is in the region
finds : (v n : ℕ) (a b : Cursor) → IsCursor v a → left_of (side_of v) a ≡ n → IsCursor v b → 0 < b.strips_left → left_of (side_of v) b ≤ n → InRegion v (place_of b) → Contains (places_among v n a) (place_of b)
finds v zero a b i e j l h t = let p = left-positive v b j l in absurd (omega arith)
finds v (suc n) a b i e j l h t =
    let s = side_of v in
    let k = strips-positive s a n e in
    elim (cases_lt (left_of s b) (suc n)) [
      | inl m ↦ rw places-suc (contains-cond (place_of a) (place_of b) (is_in_region v a.row (place_of a).col) _ (finds v n (next_of s a) b (next-IsCursor v a i k) (omega (arith, next-left s a k i.row_in)) j l (omega arith) t))
      | inr m ↦ grind (arith, same-cursor, places-suc)
    ]

-- ---- the beginning, and the cursor of a place

-- the cursor at which the walk begins is a cursor of the walk
pub start-IsCursor : (v : ℕ) → IsCursor v (first_cursor v)
start-IsCursor v = record { strips_in = omega arith; row_in = omega arith }

-- the cursor of a module m is in a strip
pub at-strips : (m : Module) → 0 < (cursor_at m).strips_left
unfolding cursor_at
at-strips m = omega arith

-- the cursor of each module m of the square is a cursor of the walk
pub at-IsCursor : (v : ℕ) (m : Module) → m.row < side_of v → m.col < side_of v → IsCursor v (cursor_at m)
unfolding cursor_at
at-IsCursor v m h k = record { strips_in = grind (arith, nat_tests); row_in = h }

-- the module at the cursor of module m is m, unless m is in column 6
pub at-place : (m : Module) → (m.col ≡ 6 → ⊥) → place_of (cursor_at m) ≡ m
unfolding cursor_at
at-place m h = grind (arith, nat_tests)

-- no cursor b has more cursors left than the beginning of the walk
start-most : (v : ℕ) (b : Cursor) → IsCursor v b → left_of (side_of v) b ≤ left_of (side_of v) (first_cursor v)
unfolding left_of
start-most v b j = search (arith, mul-le-mul_right, nat_tests)

-- ---- the order

-- the modules that the walk of version v yields from its beginning are the order
pub to_come-start : (v : ℕ) → IsOrder v (to_come v (first_cursor v))
unfolding to_come
to_come-start v =
    let n = left_of (side_of v) (first_cursor v) in
    let i = start-IsCursor v in
    record {
      in_region = search (arith, All-from_recursion, All-weaker_rec, stops);
      complete = λ m h.
          let b = cursor_at m in
          let e = at-place m (col-not_timing v m h) in
          let j = at-IsCursor v m (row-in v m h) (col-in v m h) in
          subst (λ (z : Module). Contains (places_among v n (first_cursor v)) z) e (finds v n (first_cursor v) b i refl j (at-strips m) (start-most v b j) (subst (InRegion v) (sym e) h));
      rising = AllPairs-from_rises _ _ (rises v n (first_cursor v) i refl);
    }

-- ---- the walk from a cursor in the middle

-- if the list xs ends with ys, then the list xs with x in front, if the test t passes, ends with ys
reach-cond : (v : ℕ) (x : Module) (t : Bool) (xs ys : List Module) → ((front : List Module) × (xs ≡ front ++ ys)) → (front : List Module) × (cond t (x ∷ xs) xs ≡ front ++ ys)
reach-cond v x true xs ys w = (x ∷ w.0, ap (λ zs. x ∷ zs) w.1)
reach-cond v x false xs ys w = w

-- the modules that the walk yields from a on end with those from a later cursor b on
reaches : (v n : ℕ) (a b : Cursor) → IsCursor v a → left_of (side_of v) a ≡ n → IsCursor v b → 0 < b.strips_left → left_of (side_of v) b ≤ n → (front : List Module) × (places_among v n a ≡ front ++ places_among v (left_of (side_of v) b) b)
reaches v zero a b i e j l h = let p = left-positive v b j l in absurd (omega arith)
reaches v (suc n) a b i e j l h =
    let s = side_of v in
    let k = strips-positive s a n e in
    elim (cases_lt (left_of s b) (suc n)) [
      | inl m ↦ rw places-suc (reach-cond v (place_of a) (is_in_region v a.row (place_of a).col) _ _ (reaches v n (next_of s a) b (next-IsCursor v a i k) (omega (arith, next-left s a k i.row_in)) j l (omega arith)))
      | inr m ↦ search (arith, same-cursor)
    ]

-- the modules from a on are that at a, if it is in the region, and those from the next cursor on
pub to_come-next : (v : ℕ) (a : Cursor) → IsCursor v a → 0 < a.strips_left → to_come v a ≡ cond (is_in_region v a.row (place_of a).col) (place_of a ∷ to_come v (next_of (side_of v) a)) (to_come v (next_of (side_of v) a))
unfolding to_come
to_come-next v a i k =
    let s = side_of v in
    let e : left_of s a ≡ suc (left_of s (next_of s a)) = omega (arith, next-left s a k i.row_in) in
    search (arith, places-suc)

-- the modules that the walk yields after the cursor of module m are the modules that come after m in the order
pub after : (v : ℕ) (m : Module) → InRegion v m → IsOrderAfter v m (to_come v (next_of (side_of v) (cursor_at m)))
unfolding to_come
after v m h =
    let s = side_of v in
    let b = cursor_at m in
    let e = at-place m (col-not_timing v m h) in
    let j = at-IsCursor v m (row-in v m h) (col-in v m h) in
    let w = reaches v (left_of s (first_cursor v)) (first_cursor v) b (start-IsCursor v) refl j (at-strips m) (start-most v b j) in
    let t : is_in_region v b.row (place_of b).col ≡ true = subst (InRegion v) (sym e) h in
    let f : to_come v b ≡ m ∷ to_come v (next_of s b) = to_come-next v b j (at-strips m) ∙ (cc) in
    record { front = w.0; whole = subst (IsOrder v) (w.1 ∙ ap (λ zs. w.0 ++ zs) f) (to_come-start v) }

-- the modules that the walk of the code yields from the last row of the rightmost strip on are the order of version v
pub walk-order : (v n s : ℕ) → n ≡ v → s ≡ side_of v → IsOrder v (to_come v (record { strips_left = 8 + 2 * n; row = s - 1; at_left = false }))
walk-order v n s e f =
    let g : s - 1 ≡ 16 + 4 * v = omega arith in
    let h : 8 + 2 * n ≡ 8 + 2 * v = omega arith in
    rw (g, h) (to_come-start v)

-- ---- one step of the code

-- the cursor a that the code computes for module m is in a strip
pub after-strips : (m : Module) (a : Cursor) → a ≡ cursor_at m → 0 < a.strips_left
after-strips m a f = rw f (at-strips m)

-- the cursor a that the code computes for a module m of the region is a cursor of the walk
pub after-cursor : (v : ℕ) (m : Module) (a : Cursor) (t : Bool) → t ≡ is_in_region v m.row m.col → t ≡ true → a ≡ cursor_at m → IsCursor v a
after-cursor v m a t h j f = rw f (at-IsCursor v m (row-in v m (sym h ∙ j)) (col-in v m (sym h ∙ j)))
