-- The places of the strips of version v in the region, one strip after the other, are its order.
use Rattle.std.proofs.Common.{◌≡◌, ℕ, zero, suc, ◌+◌, ◌-◌, ◌*◌, ◌<◌, ◌≤◌, false, cond, List, [], ◌∷◌, ◌++◌, refl, sym, ap, ◌∙◌, arith}
use Rattle.std.{proofs.lemmas.{List.Elements.All-from_recursion, Bool.Decides.nat_tests}, specs.List.{All, AllByRecursion}}
use Rattle.qr_layout.specs.{declared.{region.Module.Module, order.Cursor.Cursor, strips.Strip.Strip}, Version.side_of, Order.{IsOrder, in_region_of}}
use Rattle.qr_layout.specs.Steps.Order.{place_of, left_of, next_of, places_among, to_come, first_cursor}
use Rattle.qr_layout.specs.Strips.{rows_from, both_of, places_of, strip_at, strips_to_come}
use Rattle.qr_layout.proofs.lemmas.order.WalkLemmas.{places-nil, places-suc, to_come-start}

-- the right places of n rows of strips, from cursor a on, in the region or not
pairs_among : ℕ → ℕ → Cursor → List Module
pairs_among v zero a = []
pairs_among v (suc n) a = place_of a ∷ pairs_among v n (next_of (side_of v) (next_of (side_of v) a))

-- the right places of n + 1 rows from a on are the place of a and the right places of n rows from two steps on
pairs-suc : (v n : ℕ) (a : Cursor) → pairs_among v (suc n) a ≡ place_of a ∷ pairs_among v n (next_of (side_of v) (next_of (side_of v) a))
unfolding pairs_among
pairs-suc v n a = refl

-- the places of n rows from a on that are in the region are those that 2 * n steps of the walk visit
kept : (v n : ℕ) (a : Cursor) → a.at_left ≡ false → in_region_of v (both_of (pairs_among v n a)) ≡ places_among v (2 * n) a
unfolding next_of pairs_among
kept v zero a e = search (arith, places-nil)
kept v (suc n) a e =
    let s = side_of v in
    let h = kept v n (next_of s (next_of s a)) (search (arith, nat_tests)) in
    let two : suc (suc (2 * n)) ≡ 2 * suc n = omega arith in
    search (arith, places-suc, pairs-suc)

-- ---- row by row, and strip by strip

-- the cursor at the right place of the row of strip p that comes after k other rows of this strip
abbrev at_row : ℕ → ℕ → ℕ → Cursor
at_row s p k = record { strips_left = p; row = cond (strip_at p).upward (s - 1 - k) k; at_left = false }

-- the right places from row k of a strip on are those of the rows left in it, and then those of the strips after it
rows-then : (v p k n m : ℕ) → k + suc n ≡ side_of v → pairs_among v (suc n + m) (at_row (side_of v) (suc p) k) ≡ rows_from (side_of v) (strip_at (suc p)) k (suc n) ++ pairs_among v m (at_row (side_of v) p 0)
unfolding next_of
rows-then v p k zero m e =
    let q : suc zero + m ≡ suc m = omega arith in
    search (arith, pairs-suc, nat_tests)
rows-then v p k (suc n) m e =
    let q : suc (suc n) + m ≡ suc (suc n + m) = omega arith in
    search (arith, pairs-suc, nat_tests, rows-then v p (k + 1) n m (omega arith))

-- the right places of all rows of the strips
abbrev all_rows : ℕ → List Strip → List Module
all_rows s [] = []
all_rows s (x ∷ xs) = rows_from s x 0 s ++ all_rows s xs

-- the right places from the first row of strip p on are those of strip p and of the strips to the left of it
rows-all : (v p : ℕ) → pairs_among v (p * side_of v) (at_row (side_of v) p 0) ≡ all_rows (side_of v) (strips_to_come p)
unfolding pairs_among
rows-all v zero = search arith
rows-all v (suc p) =
    let s = side_of v in
    let n = s - 1 in
    let e : suc p * s ≡ suc n + p * s = times p s (omega arith) in
    let f : suc n ≡ s = omega arith in
    search (arith, rows-then, rows-all v p)
  where
    times : (p s : ℕ) → 0 < s → suc p * s ≡ suc (s - 1) + p * s
    times p s l = omega arith

-- `both_of` of the list xs followed by the list ys is `both_of xs` followed by `both_of ys`
both-append : (xs ys : List Module) → both_of (xs ++ ys) ≡ both_of xs ++ both_of ys
both-append [] ys = refl
both-append (x ∷ xs) ys = cc (both-append xs ys)

-- the right places of all rows of the strips, each followed by the place to the left of it, are their places
places-both : (s : ℕ) (xs : List Strip) → both_of (all_rows s xs) ≡ places_of s xs
places-both s [] = refl
places-both s (x ∷ xs) = search (arith, both-append, places-both s xs)

-- the number of cursors left at the beginning of the walk is twice the number of rows of all strips
left-start : (v : ℕ) → 2 * ((8 + 2 * v) * side_of v) ≡ left_of (side_of v) (first_cursor v)
unfolding left_of
left-start v = search (arith, nat_tests)

-- the places of all strips, when the places outside the region are left out, are the order
pub strips-order : (v n : ℕ) → n ≡ v → IsOrder v (in_region_of v (places_of (side_of v) (strips_to_come (8 + 2 * n))))
unfolding to_come
strips-order v n e =
    let h : 8 + 2 * n ≡ 8 + 2 * v = omega arith in
    let rows : pairs_among v ((8 + 2 * v) * side_of v) (first_cursor v) ≡ all_rows (side_of v) (strips_to_come (8 + 2 * v)) = ap (pairs_among v ((8 + 2 * v) * side_of v)) (sym (search (
      arith,
      nat_tests,
    ))) ∙ rows-all v (8 + 2 * v) in
    rw (h, ← places-both (side_of v) (strips_to_come (8 + 2 * v)), ← rows, kept v ((8 + 2 * v) * side_of v) (first_cursor v) refl, left-start v) (to_come-start v)

-- both columns of strip x are columns of the square
abbrev pub Inside : ℕ → Strip → Type 0
Inside v x = (1 ≤ x.right) × (x.right < side_of v)

-- strip p of version v and the strips to the left of it have both columns in the square
all-inside : (v p : ℕ) → p ≤ 8 + 2 * v → AllByRecursion (Inside v) (strips_to_come p)
all-inside v zero l = tt
all-inside v (suc p) l = search (arith, nat_tests, all-inside v p (omega arith))

-- all strips of version v have both columns in the square
pub strips-inside : (v n : ℕ) → n ≡ v → All (Inside v) (strips_to_come (8 + 2 * n))
strips-inside v n e = All-from_recursion (Inside v) _ (all-inside v (8 + 2 * n) (omega arith))
