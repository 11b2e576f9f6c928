-- Tests computed at each number below a bound, and the table of the alignment centres.
use Rattle.qr_layout.specs.{Alignment.{centres_of, centre_table, is_corner_pair, alignment_places}, Rectangles.{AreFixed, is_in_rectangle}}
use Rattle.qr_layout.specs.Region.{is_corner, is_timing, is_version_information, is_alignment, ring_of, is_in_region}
use Rattle.qr_layout.specs.{Steps.Rectangles.{IsCentreInside, IsInside, fixed_list, taken_rectangles}, Version.side_of, declared.alignment.TheConstants.CENTRES}
use Rattle.qr_layout.specs.declared.region.{Module.Module, Rectangle.Rectangle}
use Rattle.std.proofs.Common.{◌≡◌, ℕ, zero, suc, ◌+◌, ◌-◌, ◌/◌, ◌<◌, ◌≤◌, Bool, true, false, ◌&&◌, cond, eqb, leb, List, [], ◌∷◌, length, take, get_or, refl, sym, ◌∙◌, subst, inl, inr, arith, not, ◌||◌, ltb, map, ap}
use Rattle.std.proofs.lemmas.{Bool.{cases_lt, and_parts, eqb-true, Decides.nat_tests}, List.{Elements.{All-nil, All-cons, All-weaker}, Folds.list_any-append}}
use Rattle.std.specs.List.{All, list_all, list_any, flat_map}
use borrow.Author.Tests.{leb-true}

-- a test at each number below n
abbrev pub below : ℕ → (ℕ → Bool) → Bool
below zero p = true
below (suc n) p = p n && below n p

-- the test at one of the numbers
pub below-at : (n : ℕ) (p : ℕ → Bool) → below n p ≡ true → (k : ℕ) → k < n → p k ≡ true
below-at zero p h k l = absurd (omega arith)
below-at (suc n) p h k l = elim (cases_lt k n) [
  | inl m ↦ below-at n p (and_parts (p n) _ h).1 k m
  | inr m ↦ search (arith, and_parts)
]

-- the test at one of n numbers from a on
pub below-from : (n a : ℕ) (p : ℕ → Bool) → below n (λ k. p (k + a)) ≡ true → (k : ℕ) → a ≤ k → k < n + a → p k ≡ true
below-from n a p h k l m = subst (λ (z : ℕ). p z ≡ true) (omega arith) (below-at n (λ k. p (k + a)) h (k - a) (omega arith))

-- two lists of numbers are the same
abbrev pub is_same : List ℕ → List ℕ → Bool
is_same [] [] = true
is_same [] (y ∷ ys) = false
is_same (x ∷ xs) [] = false
is_same (x ∷ xs) (y ∷ ys) = eqb x y && is_same xs ys

-- what the test of two lists means
pub is_same-same : (xs ys : List ℕ) → is_same xs ys ≡ true → xs ≡ ys
is_same-same [] [] h = refl
is_same-same [] (y ∷ ys) h = cc
is_same-same (x ∷ xs) [] h = cc
is_same-same (x ∷ xs) (y ∷ ys) h = search (arith, eqb-true, and_parts, is_same-same xs ys (and_parts (eqb x y) _ h).1)

-- the two tables have the same centres for one version
abbrev pub centres_agree : ℕ → Bool
centres_agree n = is_same (take (cond (eqb n 0) 0 ((n + 1) / 7 + 2)) (get_or CENTRES n [])) (get_or centre_table n [])

-- the two tables are the same, computed
all-agree : below 40 centres_agree ≡ true
all-agree = refl

-- the centres that the code takes from its table are those of the definition
pub centres-agree : (v i many : ℕ) → v ≤ 40 → i + 1 ≡ v → many ≡ cond (eqb i 0) 0 ((i + 1) / 7 + 2) → take many (get_or CENTRES i []) ≡ centres_of v
unfolding centres_of
centres-agree v i many l f e = rw (e, ← f) (is_same-same (take (cond (eqb i 0) 0 ((i + 1) / 7 + 2)) (get_or CENTRES i [])) (get_or centre_table i []) (below-at 40 centres_agree all-agree i (omega arith)) ∙ sym (search arith))

-- the forty lists are no longer than seven, computed
few-centres : below 40 (λ i. leb (length (centres_of (i + 1))) 7) ≡ true
unfolding centres_of
few-centres = refl

-- a version has at most seven rows of centres
pub centres-few : (v : ℕ) → 1 ≤ v → v ≤ 40 → length (centres_of v) ≤ 7
centres-few v h k = leb-true _ _ (below-from 40 1 (λ v. leb (length (centres_of v)) 7) few-centres v h (omega arith))

-- The alignment patterns and the region, as tests of their parts.

-- a test of the items of a flat map goes over the lists that it joins
list_any-flat_map : {X Y : Type 0} (p : Y → Bool) (f : X → List Y) (xs : List X) → list_any p (flat_map f xs) ≡ list_any (λ x. list_any p (f x)) xs
list_any-flat_map p f [] = refl
list_any-flat_map p f (x ∷ xs) = search (arith, list_any-append, list_any-flat_map p f xs)

-- tests that agree on each item agree on the list
pub list_any-same : {X : Type 0} (p q : X → Bool) → ((x : X) → p x ≡ q x) → (xs : List X) → list_any p xs ≡ list_any q xs
list_any-same p q e [] = refl
list_any-same p q e (x ∷ xs) = search (arith, list_any-same p q e xs)

-- a fact that does not speak of the item may stand outside
list_any-and : {X : Type 0} (a : Bool) (p : X → Bool) (xs : List X) → list_any (λ x. a && p x) xs ≡ (a && list_any p xs)
list_any-and true p xs = refl
list_any-and false p [] = refl
list_any-and false p (x ∷ xs) = list_any-and false p xs

-- a test of the items that a function gives
pub list_any-map : {X Y : Type 0} (p : Y → Bool) (f : X → Y) (xs : List X) → list_any p (map f xs) ≡ list_any (λ x. p (f x)) xs
list_any-map p f [] = refl
list_any-map p f (x ∷ xs) = ap (λ b. p (f x) || b) (list_any-map p f xs)

-- a test of the alignment patterns' centres goes over their rows and then their columns
pub any-places : (p : Module → Bool) (s : ℕ) (cs : List ℕ) → list_any p (alignment_places s cs) ≡ list_any (λ a. list_any (λ b. not (is_corner_pair s a b) && p (record { row = a; col = b })) cs) cs
any-places p s cs = grind (arith, list_any-flat_map, list_any-same, nat_tests)

-- a place near one centre, or near none where the centre is in a corner
one : (r c a b : ℕ) (t : Bool) → (not t && leb (ring_of a b r c) 2) ≡ ((leb (a - 2) r && ltb r (a + 3)) && ((leb (b - 2) c && ltb c (b + 3)) && not t))
one r c a b t = grind (arith, nat_tests)

-- a place in an alignment pattern, by its row and then its column
pub alignment_parts : (r c s : ℕ) (cs : List ℕ) → list_any (λ m. leb (ring_of m.row m.col r c) 2) (alignment_places s cs) ≡ list_any (λ a. leb (a - 2) r && ltb r (a + 3) && list_any (λ b. leb (b - 2) c && ltb c (b + 3) && not (is_corner_pair s a b)) cs) cs
alignment_parts r c s cs =
    any-places (λ m. leb (ring_of m.row m.col r c) 2) s cs ∙
    list_any-same _ _ (λ a.
    list_any-same _ _ (λ b. one r c a b (is_corner_pair s a b)) cs ∙ list_any-and (leb (a - 2) r && ltb r (a + 3)) (λ b. leb (b - 2) c && ltb c (b + 3) && not (is_corner_pair s a b)) cs) cs

-- the square round a centre has the rings 0 to 2
square-rings : (a b r c : ℕ) → is_in_rectangle r c (record { top = a - 2; bottom = a + 3; left = b - 2; right = b + 3 }) ≡ leb (ring_of a b r c) 2
square-rings a b r c = grind (arith, nat_tests)

-- ---- the rectangles that cover all but the alignment patterns

-- the corners
corners-are : (s r c : ℕ) → r < s → c < s → is_corner s r c ≡ list_any (is_in_rectangle r c)
    (record { top = 0; bottom = 9; left = 0; right = 9 } ∷ record { top = 0; bottom = 9; left = s - 8; right = s } ∷ record { top = s - 8; bottom = s; left = 0; right = 9 } ∷ [])
corners-are s r c h k = grind (arith, nat_tests)

-- the lines of the timing patterns
timing-is : (s r c : ℕ) → r < s → c < s → is_timing r c ≡ list_any (is_in_rectangle r c)
    (record { top = 6; bottom = 7; left = 0; right = s } ∷ record { top = 0; bottom = s; left = 6; right = 7 } ∷ [])
timing-is s r c h k = grind (arith, nat_tests)

-- the copies of version information
version-is : (v r c : ℕ) → is_version_information v r c ≡ list_any (is_in_rectangle r c) (cond (ltb v 7) []
    (record { top = 0; bottom = 6; left = side_of v - 11; right = side_of v - 8 } ∷ record { top = side_of v - 11; bottom = side_of v - 8; left = 0; right = 6 } ∷ []))
version-is v r c = search arith

-- tests of the rectangles, by the parts that they cover
by-parts : (a b d e f g x y z : Bool) → x ≡ (a || (b || (d || false))) → y ≡ (e || (f || false)) → z ≡ g
    → (a || (b || (d || (e || (f || g))))) ≡ ((x || y) || z)
by-parts a b d e f g x y z h k l = grind (arith, nat_tests)

-- a test of each item of a list, and what it means
all-of : {X : Type 0} (p : X → Bool) (P : X → Type 0) → ((x : X) → p x ≡ true → P x) → (xs : List X) → list_all p xs ≡ true → All P xs
all-of p P f [] h = All-nil P
all-of p P f (x ∷ xs) h = All-cons P x xs (f x (and_parts (p x) _ h).0) (all-of p P f xs (and_parts (p x) _ h).1)

-- ---- the rectangles are inside the symbol

-- the rectangles of a version are such as cover all but the alignment patterns
pub fixed-are : (v : ℕ) → 1 ≤ v → v ≤ 40 → AreFixed v (fixed_list v)
fixed-are v h k = grind (arith, all-of, below-from, by-parts, corners-are, timing-is, version-is)

-- such rectangles are inside the symbol
pub fixed-inside : (v : ℕ) (bs : List Rectangle) → AreFixed v bs → All (IsInside (side_of v)) bs
fixed-inside v bs a = search (arith, All-weaker)

-- the region inside the square
pub region-parts : (v r c : ℕ) → r < side_of v → c < side_of v
    → is_in_region v r c ≡ not (is_corner (side_of v) r c || is_timing r c || is_version_information v r c || is_alignment v r c)
unfolding is_in_region
region-parts v r c h k = search arith

-- a place inside the square is in the region if it is in none of such rectangles and in no alignment pattern
pub region_outside : (v : ℕ) (bs : List Rectangle) → AreFixed v bs → (r c : ℕ) → r < side_of v →
    c < side_of v → is_in_region v r c ≡ not (list_any (is_in_rectangle r c) bs || is_alignment v r c)
region_outside v bs a r c h k = search (arith, region-parts)

-- the same for the rectangles of a version, with the alignment patterns as rectangles too
pub region-taken : (v r c : ℕ) → 1 ≤ v → v ≤ 40 → r < side_of v → c < side_of v → is_in_region v r c ≡ not (list_any (is_in_rectangle r c) (taken_rectangles v))
region-taken v r c l m h k =
    search (arith, region_outside, fixed-are, list_any-map, list_any-append, list_any-same, square-rings)

-- no place below the last row is in the region
pub region-row-out : (v r c : ℕ) → side_of v ≤ r → false ≡ is_in_region v r c
unfolding is_in_region
region-row-out v r c h = grind (arith, nat_tests)

-- no place right of the last column is in the region
pub region-col-out : (v r c : ℕ) → side_of v ≤ c → false ≡ is_in_region v r c
unfolding is_in_region
region-col-out v r c h = grind (arith, nat_tests)

-- a place inside the square that is in no corner, on no timing pattern and not in the version information
pub region-free : (v r c : ℕ) → r < side_of v → c < side_of v → is_corner (side_of v) r c ≡ false → is_timing r c ≡ false → is_version_information v r c ≡ false → is_in_region v r c ≡ not (is_alignment v r c)
region-free v r c h k i j l = rw (region-parts v r c h k, i, j, l) refl

-- a place in the corners is not in the region
pub region-corners : (v r c : ℕ) → is_corner (side_of v) r c ≡ true → false ≡ is_in_region v r c
unfolding is_in_region
region-corners v r c h = search arith

-- a place on a timing pattern is not in the region
pub region-timing : (v r c : ℕ) → is_timing r c ≡ true → false ≡ is_in_region v r c
unfolding is_in_region
region-timing v r c h = search arith

-- a place in the version information is not in the region
pub region-version : (v r c : ℕ) → is_version_information v r c ≡ true → false ≡ is_in_region v r c
unfolding is_in_region
region-version v r c h = search arith

pub ruleset region_out = (region-row-out, region-col-out, region-corners, region-timing, region-version)

-- the square round a centre is inside a symbol of side s
abbrev is_inside : ℕ → Module → Bool
is_inside s m = leb 2 m.row && leb (m.row + 3) s && leb 2 m.col && leb (m.col + 3) s

-- the squares of the alignment patterns are inside, in each version, computed
all-inside : below 40 (λ k. list_all (is_inside (side_of (k + 1))) (alignment_places (side_of (k + 1)) (centres_of (k + 1)))) ≡ true
unfolding centres_of
all-inside = refl

-- the squares of the alignment patterns are inside the symbol
pub centres-inside : (v : ℕ) → 1 ≤ v → v ≤ 40 → All (IsCentreInside (side_of v)) (alignment_places (side_of v) (centres_of v))
centres-inside v h k = all-of (is_inside (side_of v)) (IsCentreInside (side_of v)) (search arith) _ (below-from 40 1 (λ v. list_all (is_inside (side_of v)) (alignment_places (side_of v) (centres_of v))) all-inside v h (omega arith))
