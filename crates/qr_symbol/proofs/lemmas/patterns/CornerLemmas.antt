-- The modules of row 8 and column 8 that are beside the finder patterns.
use Rattle.qr_layout.{proofs.Facts.{dark-module, format-first, format-only, format-second}, specs.{Format.{first_place, second_place}, Region.is_corner}}
use Rattle.qr_layout.specs.{Role.role_of, Version.side_of, declared.{region.Module.Module, role.Role.{Role, TheVariants.FormatBit}}}
use Rattle.qr_symbol.proofs.lemmas.{patterns.TimingLemmas.paint-fixed, placement.PlacementLemmas.{at, by_test}}
use Rattle.qr_symbol.specs.Steps.Patterns.{fixed_colour, format_or, is_in_finder_area, paint_of}
use Rattle.std.proofs.Common.{◌≡◌, ℕ, ◌+◌, ◌-◌, ◌<◌, ◌≤◌, Bool, true, false, cond, eqb, ◌&&◌, ◌||◌, ◌⊎◌, refl, ap, inl, inr, arith}
use Rattle.std.proofs.lemmas.Bool.{cases_eq, cases_lt, Decides.nat_tests}

-- the tests that a place is in one of the first one, two and three areas
abbrev pub two_areas : ℕ → ℕ → ℕ → Bool
two_areas s r c = is_in_finder_area 0 0 r c || is_in_finder_area 0 (s - 8) r c

abbrev pub areas : ℕ → ℕ → ℕ → Bool
areas s r c = two_areas s r c || is_in_finder_area (s - 8) 0 r c

-- the areas, and then the two timing modules and the dark module beside them
abbrev pub with_first : ℕ → ℕ → ℕ → Bool
with_first s r c = areas s r c || (eqb r 8 && eqb c 6)

abbrev pub with_second : ℕ → ℕ → ℕ → Bool
with_second s r c = with_first s r c || (eqb r 6 && eqb c 8)

abbrev pub begun : ℕ → ℕ → ℕ → Bool
begun s r c = with_second s r c || (eqb r (s - 8) && eqb c 8)

-- the dark module is dark
pub dark-painted : (v format : ℕ) → 1 ≤ v → v ≤ 40 → true ≡ paint_of v format (side_of v - 8) 8
dark-painted v format l k = search (arith, paint-fixed, dark-module)

-- a module that contains a bit of the format information gets its colour when this information is drawn
bit-painted : (v r c format i : ℕ) (w : Bool) → role_of v r c ≡ FormatBit i → format_or format (role_of v r c) w ≡ paint_of v format r c
unfolding format_or fixed_colour
bit-painted v r c format i w e = rw e refl

-- the bits of the two copies of the format information
at-first : (v r c i : ℕ) → 1 ≤ v → v ≤ 40 → i < 15 → (first_place i).row ≡ r → (first_place i).col ≡ c → role_of v r c ≡ FormatBit i
at-first v r c i k1 k2 l e f = cc (format-first v i k1 k2 l)

at-second : (v r c i : ℕ) → 1 ≤ v → v ≤ 40 → i < 15 → (second_place (side_of v) i).row ≡ r → (second_place (side_of v) i).col ≡ c → role_of v r c ≡ FormatBit i
at-second v r c i k1 k2 l e f = cc (format-second v i k1 k2 l)

-- the places beside the finder patterns, but for the timing modules and the dark module, have bits of the format
-- information
column-painted : (v r format : ℕ) (w : Bool) → 1 ≤ v → v ≤ 40 → (9 ≤ r → side_of v - 8 < r)
    → r < side_of v → (r ≡ 6 → ⊥) → format_or format (role_of v r 8) w ≡ paint_of v format r 8
column-painted v r format w k1 k2 n l o = elim (cases_lt r 6) [
  | inl a ↦ bit-painted v r 8 _ r w (at-first v r 8 r k1 k2 (omega arith) (grind (arith, nat_tests)) (grind (arith, nat_tests)))
  | inr a ↦ elim (cases_lt r 9) [
    | inl b ↦ bit-painted v r 8 format _ w (at-first v r 8 (r - 1) k1 k2 (omega arith) (grind (arith, nat_tests)) (grind (arith, nat_tests)))
    | inr b ↦ bit-painted v r 8 _ (r + 15 - side_of v) w (at-second v r 8 _ k1 k2 (omega arith) (grind (arith, nat_tests)) (grind (arith, nat_tests)))
  ]
]

-- the same holds for the places of row 8: but for the timing module, they have bits of the format information
row-painted : (v c format : ℕ) (w : Bool) → 1 ≤ v → v ≤ 40 → (8 ≤ c → side_of v - 8 ≤ c)
    → c < side_of v → (c ≡ 6 → ⊥) → format_or format (role_of v 8 c) w ≡ paint_of v format 8 c
row-painted v c format w k1 k2 n l o = elim (cases_lt c 6) [
  | inl a ↦ bit-painted v 8 c _ (14 - c) w (at-first v 8 c _ k1 k2 (omega arith) (grind (arith, nat_tests)) (grind (arith, nat_tests)))
  | inr a ↦ elim (cases_lt c 8) [
    | inl b ↦ bit-painted v 8 c format 8 w (at-first v 8 c 8 k1 k2 (omega arith) (grind (arith, nat_tests)) (grind (arith, nat_tests)))
    | inr b ↦ let d = n b in bit-painted v 8 c _ (side_of v - 1 - c) w (at-second v 8 c _ k1 k2 (omega arith) (grind (arith, nat_tests)) (grind (arith, nat_tests)))
  ]
]

-- drawing the format information does not change the modules outside the corners
outside-kept : (v r c format : ℕ) (w : Bool) → 1 ≤ v → is_corner (side_of v) r c ≡ false → format_or format (role_of v r c) w ≡ w
unfolding format_or
outside-kept v r c format w k h = kept _ (λ i q. far i (format-only v _ i q))
  where
    first : (i : ℕ) → i < 15 → r ≡ (first_place i).row → c ≡ (first_place i).col → ⊥
    first i l e f = grind (arith, nat_tests)

    second : (i : ℕ) → i < 15 → r ≡ (second_place (side_of v) i).row → c ≡ (second_place (side_of v) i).col → ⊥
    second i l e f = grind (arith, nat_tests)

    far : (i : ℕ) → (i < 15) × ((at r c ≡ first_place i) ⊎ (at r c ≡ second_place (side_of v) i)) → ⊥
    far i p = elim p.1 [
      | inl e ↦ first i p.0 (ap (λ (z : Module). z.row) e) (ap (λ (z : Module). z.col) e)
      | inr e ↦ second i p.0 (ap (λ (z : Module). z.row) e) (ap (λ (z : Module). z.col) e)
    ]

    kept : (q : Role) → ((i : ℕ) → q ≡ FormatBit i → ⊥) → format_or format q w ≡ w
    kept (FormatBit i) f = absurd (f i refl)
    kept _ f = refl

-- the format information completes the corners
pub corners-done : (v r c format : ℕ) (w : Bool) → 1 ≤ v → v ≤ 40 → r < side_of v → c < side_of v
    → format_or format (role_of v r c) (cond (begun (side_of v) r c) (paint_of v format r c) w) ≡ cond (is_corner (side_of v) r c) (paint_of v format r c) w
unfolding format_or fixed_colour
corners-done v r c format w k1 k2 l m =
    by_test (begun (side_of v) r c) _
    (λ t. rw (t, begun-corner _ (omega arith) l m t) (search arith))
    (λ t. by_test (is_corner (side_of v) r c) _ (λ u. elim (cases_eq c 8) [
      | inl e ↦ search (arith, column-painted)
      | inr e ↦ search (arith, row-painted, nat_tests)
    ]) (λ u. rw (t, u) (outside-kept v r c format w k1 u)))
  where
    begun-corner : (s : ℕ) → 21 ≤ s → r < s → c < s → begun s r c ≡ true → is_corner s r c ≡ true
    begun-corner s h l m t = grind (arith, nat_tests)
