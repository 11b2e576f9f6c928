-- A module of the region is inside the square, and not in column 6. There are small facts of tests, too.
use Rattle.qr_layout.{proofs.lemmas.alignment.{any-places, list_any-same}, specs.Alignment.{centres_of, is_corner_pair}}
use Rattle.qr_layout.specs.{Region.{is_corner, is_timing, is_version_information, is_alignment, is_in_region, InRegion, ring_of}, Version.side_of}
use Rattle.qr_layout.specs.declared.region.Module.{Module}
use Rattle.std.proofs.Common.{◌≡◌, ℕ, ◌<◌, true, not, ◌||◌, ltb, arith, Bool, false, ◌&&◌, leb, List, [], ◌∷◌, refl, sym, ap, ◌∙◌}
use Rattle.std.{proofs.{Math.Bool.{and_comm, or_comm}, lemmas.Bool.{and_parts, Decides.nat_tests}}, specs.List.list_any}

-- a module of the region is inside the square, and in no part outside the region
record IsFree (v r c : ℕ) : Type 0 where
  row : ltb r (side_of v) ≡ true
  col : ltb c (side_of v) ≡ true
  free : not (is_corner (side_of v) r c || is_timing r c || is_version_information v r c || is_alignment v r c) ≡ true

-- the row of a module of the region is inside the square
pub row-in : (v : ℕ) (m : Module) → InRegion v m → m.row < side_of v
unfolding is_in_region
row-in v m h = search (arith, nat_tests, and_parts)

-- the column of a module of the region is inside the square
pub col-in : (v : ℕ) (m : Module) → InRegion v m → m.col < side_of v
unfolding is_in_region
col-in v m h = search (arith, nat_tests, and_parts)

-- no module of the region is in column 6
pub col-not_timing : (v : ℕ) (m : Module) → InRegion v m → m.col ≡ 6 → ⊥
unfolding is_in_region
col-not_timing v m h e = search (arith, and_parts, nat_tests)

-- The region is the same when rows and columns are exchanged.

-- no item passes a test that always fails
any-none : {X : Type 0} (xs : List X) → list_any (λ _. false) xs ≡ false
any-none [] = refl
any-none (x ∷ xs) = any-none xs

-- of four tests the middle ones change places
middle : (a b c d : Bool) → ((a || b) || (c || d)) ≡ ((a || c) || (b || d))
middle a b c d = grind (arith, nat_tests)

-- two tests of each item
any-or : {X : Type 0} (p q : X → Bool) (xs : List X) → list_any (λ x. p x || q x) xs ≡ (list_any p xs || list_any q xs)
any-or p q [] = refl
any-or p q (x ∷ xs) = search (arith, middle, any-or p q xs)

-- a test of pairs may go over the second list first
pub any-pairs : {X Y : Type 0} (p : X → Y → Bool) (xs : List X) (ys : List Y) → list_any (λ x. list_any (p x) ys) xs ≡ list_any (λ y. list_any (λ x. p x y) xs) ys
any-pairs p [] ys = sym (any-none ys)
any-pairs p (x ∷ xs) ys = ap (λ b. list_any (p x) ys || b) (any-pairs p xs ys) ∙ sym (any-or (p x) (λ y. list_any (λ x. p x y) xs) ys)

-- a centre with row and column exchanged is as near to a place with row and column exchanged
near : (s a b r c : ℕ) → (not (is_corner_pair s a b) && leb (ring_of a b r c) 2) ≡ (not (is_corner_pair s b a) && leb (ring_of b a c r) 2)
near s a b r c = grind (arith, nat_tests)

-- the alignment patterns
pub alignment-symmetric : (v r c : ℕ) → is_alignment v r c ≡ is_alignment v c r
alignment-symmetric v r c =
    let s = side_of v in
    let cs = centres_of v in
    any-places (λ m. leb (ring_of m.row m.col r c) 2) s cs
    ∙ (any-pairs (λ a b. not (is_corner_pair s a b) && leb (ring_of a b r c) 2) cs cs
    ∙ (list_any-same _ _ (λ b. list_any-same _ _ (λ a. near s a b r c) cs) cs
    ∙ sym (any-places (λ m. leb (ring_of m.row m.col c r) 2) s cs)))

-- the copies of version information
version-symmetric : (v r c : ℕ) → is_version_information v r c ≡ is_version_information v c r
version-symmetric v r c = search (arith, or_comm)

-- a place is in the region exactly if the place with row and column exchanged is in it
pub region-symmetric : (v r c : ℕ) → is_in_region v r c ≡ is_in_region v c r
unfolding is_in_region
region-symmetric v r c = rw (version-symmetric v r c, alignment-symmetric v r c) (search (arith, and_comm, nat_tests))
