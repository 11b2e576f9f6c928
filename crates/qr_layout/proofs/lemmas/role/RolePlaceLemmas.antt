-- Which places contain the bits of the format and version information, and that all other free places are the region.
use Rattle.std.proofs.Common.{◌≡◌, ℕ, ◌+◌, ◌-◌, ◌<◌, ◌≤◌, max, Bool, true, false, not, ◌&&◌, ◌||◌, cond, eqb, ltb, Option, None, Some, refl, sym, ap, ◌∙◌, inl, inr, ◌⊎◌, arith}
use Rattle.std.{proofs.lemmas.Bool.{Decides.nat_tests, and_parts, eqb-true}, specs.{Int.abs_diff, List.{find, range_with_len}, Option.option_map_or}}
use Rattle.qr_layout.specs.{declared.{region.Module.Module, role.Role.Role}, Version.side_of, Alignment.centres_of}
use Rattle.qr_layout.{specs.declared.role.Role.TheVariants.{Fixed, FormatBit, VersionBit, Region}, proofs.lemmas.role.RoleSymmetryLemmas.role-symmetric}
use Rattle.qr_layout.specs.Region.{is_alignment, is_corner, is_in_region, is_timing, is_version_information, ring_of}
use Rattle.qr_layout.specs.Role.{finder_ring, is_alignment_light, pattern_colour, is_dark_module, role_of}
use Rattle.qr_layout.specs.Format.{first_place, second_place, version_place, mirror_of, is_at, format_bit_at, version_bit_at}
use Rattle.qr_layout.proofs.lemmas.alignment.{below, below-at, below-from, region-free, region-parts}
use Rattle.qr_layout.proofs.lemmas.format.BitPlaceLemmas.{either, first-at, bit_here, stands, format-at, format_in_column_8, format_in_row_8, version_at}

-- the choice of a role, over what its parts say
abbrev role_with : Option Bool → Bool → Option ℕ → Option ℕ → Role
role_with a t f g = option_map_or Fixed a (cond t (Fixed true) (option_map_or FormatBit f (option_map_or VersionBit g Region)))

-- the role by its parts
role-with : (v r c : ℕ) → role_of v r c ≡ role_with (pattern_colour v r c) (is_dark_module (side_of v) r c) (format_bit_at (side_of v) r c) (version_bit_at v r c)
unfolding role_of
role-with v r c = refl

-- ---- the places of the bits

-- a module at the row and column of another is that one
at-place : (m n : Module) → is_at n m.row m.col ≡ true → m ≡ n
at-place m n h = search (arith, eqb-true, and_parts)

-- a module at one of two places is one of the two
either-place : (m n k : Module) → (is_at n m.row m.col || is_at k m.row m.col) ≡ true → (m ≡ n) ⊎ (m ≡ k)
either-place m n k h = search (arith, either, at-place)

-- a bit of the format information that is found is at one of its two places
found-format : (s : ℕ) (m : Module) (i : ℕ) → format_bit_at s m.row m.col ≡ Some i → (i < 15) × ((m ≡ first_place i) ⊎ (m ≡ second_place s i))
unfolding format_bit_at
found-format s m i h = search (arith, either-place, first-at 15 (λ i. is_at (first_place i) m.row m.col || is_at (second_place s i) m.row m.col) i h)

-- a bit of the format information is only at its two places
pub format-only : (v : ℕ) (m : Module) (i : ℕ) → role_of v m.row m.col ≡ FormatBit i → (i < 15) × ((m ≡ first_place i) ⊎ (m ≡ second_place (side_of v) i))
format-only v m i h = found-format (side_of v) m i (search (arith, role-with, nat_tests))

-- if a place has version information, the version is 7 or more
old-enough : (v i : ℕ) (o : Option ℕ) → cond (ltb v 7) None o ≡ Some i → (7 ≤ v) × (o ≡ Some i)
old-enough v i o h = search arith

-- a bit of the version information that is found is at one of its two places
found-version : (v : ℕ) (m : Module) (i : ℕ) → version_bit_at v m.row m.col ≡ Some i → (7 ≤ v) × (i < 18) × ((m ≡ version_place (side_of v) i) ⊎ (m ≡ mirror_of (version_place (side_of v) i)))
unfolding version_bit_at
found-version v m i h =
    let p : ℕ → Bool = λ i. is_at (version_place (side_of v) i) m.row m.col || is_at (mirror_of (version_place (side_of v) i)) m.row m.col in
    let o = old-enough v i (find p (range_with_len 0 18)) h in
    search (arith, either-place, first-at 18 p i o.1)

-- a bit of the version information is only at its two places
pub version-only : (v : ℕ) (m : Module) (i : ℕ) → role_of v m.row m.col ≡ VersionBit i → (7 ≤ v) × (i < 18) × ((m ≡ version_place (side_of v) i) ⊎ (m ≡ mirror_of (version_place (side_of v) i)))
version-only v m i h = found-version v m i (search (arith, role-with, nat_tests))

-- whether a role is the other
is_role : Role → Role → Bool
is_role (Fixed a) (Fixed b) = cond a b (not b)
is_role (FormatBit i) (FormatBit j) = eqb i j
is_role (VersionBit i) (VersionBit j) = eqb i j
is_role Region Region = true
is_role x y = false

-- the module has the role
abbrev has_role : ℕ → Module → Role → Bool
has_role v m x = is_role (role_of v m.row m.col) x

role-same : (x y : Role) → is_role x y ≡ true → x ≡ y
unfolding is_role
role-same x y h = grind (arith, nat_tests)

-- both copies of a bit of the format information
format_placed : ℕ → ℕ → Bool
format_placed v i = has_role v (first_place i) (FormatBit i) && has_role v (second_place (side_of v) i) (FormatBit i)

-- the first copy of a bit of the version information
version_placed : ℕ → ℕ → Bool
version_placed v i = has_role v (version_place (side_of v) i) (VersionBit i)

-- in each version, computed
all-format : below 40 (λ k. below 15 (format_placed (k + 1))) ≡ true
unfolding format_placed is_role role_of pattern_colour format_bit_at version_bit_at is_alignment_light centres_of
all-format = refl

-- in each version from 7 on, computed
all-version : below 34 (λ k. below 18 (version_placed (k + 7))) ≡ true
unfolding version_placed is_role role_of pattern_colour format_bit_at version_bit_at is_alignment_light centres_of
all-version = refl

-- in each version, computed
all-dark : below 40 (λ k. is_role (role_of (k + 1) (side_of (k + 1) - 8) 8) (Fixed true)) ≡ true
unfolding is_role role_of pattern_colour format_bit_at version_bit_at is_alignment_light centres_of
all-dark = refl

format-placed : (v i : ℕ) → 1 ≤ v → v ≤ 40 → i < 15 → (has_role v (first_place i) (FormatBit i) ≡ true) × (has_role v (second_place (side_of v) i) (FormatBit i) ≡ true)
unfolding format_placed
format-placed v i h k l = and_parts _ _ (below-at 15 (format_placed v) (below-from 40 1 (λ v. below 15 (format_placed v)) all-format v h (omega arith)) i l)

version-placed : (v i : ℕ) → 7 ≤ v → v ≤ 40 → i < 18 → version_placed v i ≡ true
version-placed v i h k l = below-at 18 (version_placed v) (below-from 34 7 (λ v. below 18 (version_placed v)) all-version v h (omega arith)) i l

-- each bit of the format information is at its first place
pub format-first : (v i : ℕ) → 1 ≤ v → v ≤ 40 → i < 15 → role_of v (first_place i).row (first_place i).col ≡ FormatBit i
format-first v i h k l = role-same _ _ (format-placed v i h k l).0

-- each bit of the format information is at its second place
pub format-second : (v i : ℕ) → 1 ≤ v → v ≤ 40 → i < 15 → role_of v (second_place (side_of v) i).row (second_place (side_of v) i).col ≡ FormatBit i
format-second v i h k l = role-same _ _ (format-placed v i h k l).1

-- each bit of the version information is at its first place
pub version-first : (v i : ℕ) → 7 ≤ v → v ≤ 40 → i < 18 → role_of v (version_place (side_of v) i).row (version_place (side_of v) i).col ≡ VersionBit i
unfolding version_placed
version-first v i h k l = role-same _ _ (version-placed v i h k l)

-- each bit of the version information is at the place with row and column exchanged
pub version-second : (v i : ℕ) → 7 ≤ v → v ≤ 40 → i < 18 → role_of v (version_place (side_of v) i).col (version_place (side_of v) i).row ≡ VersionBit i
unfolding is_role version_placed
version-second v i h k l =
    let m = version_place (side_of v) i in
    role-same _ _ (sym (role-symmetric (λ x. is_role x (VersionBit i)) v m.row m.col (omega arith) (omega arith) (omega arith) (λ j n. refl)) ∙ version-placed v i h k l)

-- the dark module, beside the bottom left finder pattern, is dark
pub dark-module : (v : ℕ) → 1 ≤ v → v ≤ 40 → role_of v (side_of v - 8) 8 ≡ Fixed true
dark-module v h k = role-same _ _ (below-from 40 1 (λ v. is_role (role_of v (side_of v - 8) 8) (Fixed true)) all-dark v h (omega arith))

-- ---- the region

-- the parts of a role that is the region
record IsFree (a : Option Bool) (t : Bool) (f g : Option ℕ) : Type 0 where
  no_pattern : a ≡ None
  not_dark : t ≡ false
  no_format : f ≡ None
  no_version : g ≡ None

-- if the role is the region, the place has no colour and no bit and is not the dark module
with-region : (a : Option Bool) (t : Bool) (f g : Option ℕ) → role_with a t f g ≡ Region → IsFree a t f g
with-region a t f g h = grind arith

-- the choice of a colour, over its tests
abbrev colour_with : Bool → Bool → Bool → Bool → Bool → Bool → Bool → Bool → Bool → Option Bool
colour_with x y z w e b d p q = cond x (Some b) (cond y (Some false) (cond z (Some d) (cond w (Some p) (cond e (Some q) None))))

-- the tests that a place outside the function patterns fails
record IsOffPatterns (x y z w e : Bool) : Type 0 where
  off_finder : x ≡ false
  off_separator : y ≡ false
  off_row : z ≡ false
  off_column : w ≡ false
  off_alignment : e ≡ false

-- if a place has no colour, each of these tests fails
colour-none : (x y z w e b d p q : Bool) → colour_with x y z w e b d p q ≡ None → IsOffPatterns x y z w e
colour-none x y z w e b d p q h = grind arith

-- a place off the finder and timing patterns has the colour of an alignment pattern, or none
pub off-pattern : (v r c : ℕ) → 5 ≤ finder_ring (side_of v) r c → (r ≡ 6 → ⊥) → (c ≡ 6 → ⊥) → pattern_colour v r c ≡ cond (is_alignment v r c) (Some (not (is_alignment_light v r c))) None
unfolding pattern_colour
off-pattern v r c h k l = search (arith, nat_tests)

-- a test that cannot pass fails
truth : (b : Bool) → (b ≡ true → ⊥) → b ≡ false
truth b f = grind (arith, nat_tests)

-- the three corners
corner-parts : (s r c : ℕ) → is_corner s r c ≡ true → ((r ≤ 8) × (c ≤ 8)) ⊎ ((r ≤ 8) × (s - 8 ≤ c)) ⊎ ((s - 8 ≤ r) × (c ≤ 8))
corner-parts s r c h = grind (arith, nat_tests)

-- in a corner, a place beyond ring 4 is in row 8 or column 8
left-edge : (r c : ℕ) → 5 ≤ ring_of 3 3 r c → r ≤ 8 → c ≤ 8 → (c ≡ 8) ⊎ ((r ≡ 8) × (c ≡ 8 → ⊥))
left-edge r c n h k = grind arith

far-edge : (s r c : ℕ) → 21 ≤ s → c < s → 5 ≤ max (abs_diff 3 r) (abs_diff (s - 4) c) → r ≤ 8 → s - 8 ≤ c → r ≡ 8
far-edge s r c l j n h k = grind arith

-- column 8 and row 8 contain bits there, and the dark module
down-full : (s r : ℕ) → 21 ≤ s → r < s → (r ≡ 6 → ⊥) → is_dark_module s r 8 ≡ false → (r ≤ 8) ⊎ (s - 8 ≤ r) → format_bit_at s r 8 ≡ None → ⊥
down-full s r l i k d h f = search (arith, format_in_column_8)

-- a place that is in no pattern, contains no bit and is not the dark module is outside the corners
corners-free : (s r c : ℕ) → 21 ≤ s → r < s → c < s → 5 ≤ finder_ring s r c → (r ≡ 6 → ⊥) → (c ≡ 6 → ⊥) → is_dark_module s r c ≡ false → format_bit_at s r c ≡ None → is_corner s r c ≡ false
corners-free s r c l i j k m n d f = truth _ (λ h. elim (corner-parts s r c h) [
  | inl p ↦ elim (left-edge r c (omega (arith, k)) p.0 p.1) [
    | inl e ↦ down (inl p.0) e
    | inr e ↦ across (inl p.1) e.0 e.1
  ]
  | inr (inl p) ↦ across (inr p.1) (far-edge s r c l j (omega (arith, k)) p.0 p.1) (λ o. omega (arith, o, p.1, l))
  | inr (inr p) ↦ down (inr p.0) (far-edge s c r l i (omega (arith, k)) p.1 p.0)
])
  where
    down : (r ≤ 8) ⊎ (s - 8 ≤ r) → c ≡ 8 → ⊥
    down h e = down-full s r l i m (rw e at d) h (rw e at f)

    across : (c ≤ 8) ⊎ (s - 8 ≤ c) → r ≡ 8 → (c ≡ 8 → ⊥) → ⊥
    across h e o = search (arith, format_in_row_8)

-- a place off the corners
record IsOffCorners (s r c : ℕ) : Type 0 where
  off_left : (8 < r) ⊎ (8 < c)
  off_right : (8 < r) ⊎ (c < s - 8)
  off_below : (r < s - 8) ⊎ (8 < c)

-- what it means to be off the corners
off-corners : (s r c : ℕ) → 21 ≤ s → r < s → c < s → is_corner s r c ≡ false → IsOffCorners s r c
off-corners s r c l i j h = search arith

-- a place off the corners is beyond ring 4 of the finder patterns
corner-far : (s r c : ℕ) → 21 ≤ s → IsOffCorners s r c → 5 ≤ finder_ring s r c
corner-far s r c l w = omega (arith, left w.off_left, right w.off_right, down w.off_below)
  where
    left : (8 < r) ⊎ (8 < c) → 5 ≤ ring_of 3 3 r c
    left h = grind arith

    right : (8 < r) ⊎ (c < s - 8) → 5 ≤ ring_of 3 (s - 4) r c
    right h = grind arith

    down : (r < s - 8) ⊎ (8 < c) → 5 ≤ ring_of (s - 4) 3 r c
    down h = grind arith

-- a place off the corners is not the dark module
corner-not_dark : (s r c : ℕ) → 21 ≤ s → IsOffCorners s r c → is_dark_module s r c ≡ false
corner-not_dark s r c l w = grind (arith, nat_tests)

-- a place off the corners has no bit of the format information
corner-no_format : (s r c : ℕ) → 21 ≤ s → IsOffCorners s r c → format_bit_at s r c ≡ None
corner-no_format s r c l w =
    let none : (ltb (bit_here s r c) 15 && stands s r c (bit_here s r c)) ≡ false = truth _ (λ h. apart (bit_here s r c) (and_parts (ltb (bit_here s r c) 15) _ h)) in
    format-at s r c l ∙ rw none refl
  where
    first-in : (i : ℕ) → ltb i 15 ≡ true → (8 < r) ⊎ (8 < c) → is_at (first_place i) r c ≡ true → ⊥
    first-in i h k e = grind (arith, nat_tests)

    second-in : (i : ℕ) → ltb i 15 ≡ true → (8 < r) ⊎ (c < s - 8) → (r < s - 8) ⊎ (8 < c) → is_at (second_place s i) r c ≡ true → ⊥
    second-in i h k m e = grind (arith, nat_tests)

    apart : (i : ℕ) → (ltb i 15 ≡ true) × (stands s r c i ≡ true) → ⊥
    apart i h = elim (either (is_at (first_place i) r c) (is_at (second_place s i) r c) h.1) [
      | inl e ↦ first-in i h.0 w.off_left e
      | inr e ↦ second-in i h.0 w.off_right w.off_below e
    ]

-- ---- the timing patterns and the copies of version information

-- a place off row 6 and column 6 is on no timing pattern
timing-free : (r c : ℕ) → (r ≡ 6 → ⊥) → (c ≡ 6 → ⊥) → is_timing r c ≡ false
timing-free r c h k = grind (arith, nat_tests)

-- a place that has no bit of the version information is in no copy of it
version-free : (v r c : ℕ) → version_bit_at v r c ≡ None → is_version_information v r c ≡ false
version-free v r c h = truth _ (λ t. let e = rw t at (version_at v r c) in cc)

-- ---- the law

-- the parts that do not contain a place of the region
record IsClear (a b d e : Bool) : Type 0 where
  no_corner : a ≡ false
  no_timing : b ≡ false
  no_version : d ≡ false
  no_alignment : e ≡ false

-- a place of the region is in no part
clear : (a b d e : Bool) → not (((a || b) || d) || e) ≡ true → IsClear a b d e
clear a b d e h = search arith

-- beyond ring 4
ring-far : (n : ℕ) → ltb n 4 ≡ false → eqb n 4 ≡ false → 5 ≤ n
ring-far n h k = grind (arith, nat_tests)

-- what it means that the test of row 6 or column 6 fails
not-six : (n : ℕ) → eqb n 6 ≡ false → n ≡ 6 → ⊥
not-six n h e = grind (arith, nat_tests)

-- a module with the role Region is in the region
pub role-region : (v r c : ℕ) → 1 ≤ v → r < side_of v → c < side_of v → role_of v r c ≡ Region → is_in_region v r c ≡ true
unfolding pattern_colour
role-region v r c l i j h =
    search (arith, with-region, role-with, not-six, corners-free, ring-far, region-free, timing-free, version-free, colour-none)

-- a place off the corners, the timing patterns and the version information is in an alignment pattern or in the region
pub off-role : (v r c : ℕ) → 1 ≤ v → r < side_of v → c < side_of v → is_corner (side_of v) r c ≡ false → is_timing r c ≡ false → is_version_information v r c ≡ false
    → role_of v r c ≡ cond (is_alignment v r c) (Fixed (not (is_alignment_light v r c))) Region
off-role v r c l i j ha ht hv =
    let s = side_of v in
    let o = off-corners s r c (omega arith) i j ha in
    let far = corner-far s r c (omega arith) o in
    role-with v r c
    ∙ (ap (λ a. role_with a (is_dark_module s r c) (format_bit_at s r c) (version_bit_at v r c)) (off-pattern v r c far (search (arith, nat_tests)) (search (arith, nat_tests)))
    ∙ by-alignment (is_alignment v r c) (not (is_alignment_light v r c)) (is_dark_module s r c) (format_bit_at s r c) (version_bit_at v r c) (corner-not_dark s r c (omega arith) o) (corner-no_format s r c (omega arith) o) (search (arith, version_at)))
  where
    by-alignment : (e q t : Bool) (f g : Option ℕ) → t ≡ false → f ≡ None → g ≡ None → role_with (cond e (Some q) None) t f g ≡ cond e (Fixed q) Region
    by-alignment e q t f g x y z = grind (arith, nat_tests)

-- a module of the region has the role Region
pub region-role : (v r c : ℕ) → 1 ≤ v → r < side_of v → c < side_of v → is_in_region v r c ≡ true → role_of v r c ≡ Region
region-role v r c l i j h = search (arith, clear, region-parts, off-role)
