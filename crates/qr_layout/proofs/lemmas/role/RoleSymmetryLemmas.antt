-- The function patterns are their own transposes, if just bit 7 of the format information, opposite the dark module, is
-- set.
use Rattle.std.{proofs.{lemmas.Bool.{eqb-true, Decides.nat_tests}, Math.Bool.{and_comm, or_comm}}, specs.{List.find, Option.option_map_or}}
use Rattle.std.proofs.Common.{◌≡◌, ℕ, ◌-◌, ◌%◌, ◌<◌, ◌≤◌, Bool, true, not, ◌&&◌, ◌||◌, cond, eqb, min, List, [], ◌∷◌, Option, None, Some, refl, ◌∙◌, arith}
use Rattle.qr_layout.specs.{declared.role.Role.{Role, TheVariants.{Fixed, FormatBit, VersionBit, Region}}, Version.side_of}
use Rattle.qr_layout.specs.Role.{finder_ring, is_alignment_light, pattern_colour, is_dark_module, role_of}
use Rattle.qr_layout.specs.{Format.{first_place, second_place, is_at, format_bit_at, version_bit_at}, Alignment.{centres_of, is_corner_pair}, Region.ring_of}
use Rattle.qr_layout.proofs.lemmas.{alignment.{any-places, list_any-same}, region.{any-pairs, alignment-symmetric}}
use Rattle.qr_layout.proofs.lemmas.format.BitPlaceLemmas.{first-at, format_in_column_8, format_in_row_8, format_off}

-- ---- the patterns

-- the ring round a centre, with row and column exchanged
ring-across : (a b r c : ℕ) → ring_of a b r c ≡ ring_of b a c r
ring-across a b r c = grind arith

-- the ring round the nearest finder pattern
finder-symmetric : (s r c : ℕ) → finder_ring s r c ≡ finder_ring s c r
finder-symmetric s r c = nearest (ring_of 3 3 r c) (ring_of 3 (s - 4) r c) (ring_of (s - 4) 3 r c) (ring_of 3 3 c r) (ring_of (s - 4) 3 c r) (ring_of 3 (s - 4) c r) (ring-across 3 3 r c) (ring-across 3 (s - 4) r c) (ring-across (s - 4) 3 r c)
  where
    nearest : (a b d x y z : ℕ) → a ≡ x → b ≡ y → d ≡ z → min a (min b d) ≡ min x (min z y)
    nearest a b d x y z e f g = grind arith

-- the light rings of the alignment patterns
light-symmetric : (v r c : ℕ) → is_alignment_light v r c ≡ is_alignment_light v c r
unfolding is_alignment_light
light-symmetric v r c =
    let s = side_of v in
    let cs = centres_of v in
    any-places (λ m. eqb (ring_of m.row m.col r c) 1) s cs
    ∙ (any-pairs (λ a b. not (is_corner_pair s a b) && eqb (ring_of a b r c) 1) cs cs
    ∙ (search (arith, list_any-same, any-places, nat_tests)))

-- the timing patterns: where they cross, both are dark
timing : (r c : ℕ) (x : Option Bool) → cond (eqb r 6) (Some (eqb (c % 2) 0)) (cond (eqb c 6) (Some (eqb (r % 2) 0)) x) ≡ cond (eqb c 6) (Some (eqb (r % 2) 0)) (cond (eqb r 6) (Some (eqb (c % 2) 0)) x)
timing r c x = search (arith, eqb-true)

-- the colours of the patterns
pattern-symmetric : (v r c : ℕ) → pattern_colour v r c ≡ pattern_colour v c r
unfolding pattern_colour
pattern-symmetric v r c = search (arith, finder-symmetric, alignment-symmetric, light-symmetric, timing)

-- ---- the version information

-- two tests that agree find the same number
find-same : (p q : ℕ → Bool) → ((i : ℕ) → p i ≡ q i) → (xs : List ℕ) → find p xs ≡ find q xs
find-same p q e [] = refl
find-same p q e (x ∷ xs) = search (arith, find-same p q e xs)

-- the bits of the version information
version-symmetric : (v r c : ℕ) → version_bit_at v r c ≡ version_bit_at v c r
unfolding version_bit_at
version-symmetric v r c = search (arith, find-same, or_comm, and_comm)

-- ---- the format information and the dark module

-- the colour of the dark module, or of a module of the format information if just bit 7 is dark
abbrev seven : Bool → Option ℕ → Option Bool
seven t o = cond t (Some true) (option_map_or (λ i. Some (eqb i 7)) o None)

-- column 8 and row 8
eights : (s r : ℕ) → 21 ≤ s → r < s → seven (is_dark_module s r 8) (format_bit_at s r 8) ≡ seven (is_dark_module s 8 r) (format_bit_at s 8 r)
eights s r l h = search (arith, eqb-true, format_in_column_8, format_in_row_8, nat_tests)

-- the dark module and the format information
seven-symmetric : (s r c : ℕ) → 21 ≤ s → r < s → c < s → seven (is_dark_module s r c) (format_bit_at s r c) ≡ seven (is_dark_module s c r) (format_bit_at s c r)
seven-symmetric s r c l h k = search (arith, eqb-true, eights, nat_tests, format_off)

-- ---- the roles

-- a colour by role in which just bit 7 of the format information is dark, over what the parts of the role say
by-parts : (f : Role → Bool) (a : Option Bool) (t : Bool) (o g : Option ℕ) → ((i : ℕ) → o ≡ Some i → f (FormatBit i) ≡ f (Fixed (eqb i 7)))
    → f (option_map_or Fixed a (cond t (Fixed true) (option_map_or FormatBit o (option_map_or VersionBit g Region)))) ≡ f (option_map_or Fixed a (option_map_or Fixed (seven t o) (option_map_or VersionBit g Region)))
by-parts f a t o g h = grind (arith, nat_tests)

-- the bits of the format information are below 15
bit-below : (s r c i : ℕ) → format_bit_at s r c ≡ Some i → i < 15
unfolding format_bit_at
bit-below s r c i h = (first-at 15 (λ i. is_at (first_place i) r c || is_at (second_place s i) r c) i h).0

-- the colour of a module by its role, over what the parts of the role say
colour-parts : (f : Role → Bool) (v r c : ℕ) → ((i : ℕ) → i < 15 → f (FormatBit i) ≡ f (Fixed (eqb i 7)))
    → f (role_of v r c) ≡ f (option_map_or Fixed (pattern_colour v r c) (option_map_or Fixed (seven (is_dark_module (side_of v) r c) (format_bit_at (side_of v) r c)) (option_map_or VersionBit (version_bit_at v r c) Region)))
unfolding role_of
colour-parts f v r c h = search (arith, by-parts, bit-below)

-- if of the format information just bit 7 is dark, the colours by role are the same with row and column exchanged
pub role-symmetric : (f : Role → Bool) (v r c : ℕ) → 1 ≤ v → r < side_of v → c < side_of v → ((i : ℕ) → i < 15 → f (FormatBit i) ≡ f (Fixed (eqb i 7))) → f (role_of v r c) ≡ f (role_of v c r)
role-symmetric f v r c l h k e =
    cc (colour-parts f v r c e, pattern-symmetric v r c, seven-symmetric (side_of v) r c (omega arith) h k, version-symmetric v r c, colour-parts f v c r e)
