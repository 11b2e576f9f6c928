-- The colours of row 6 and column 6.
use Rattle.qr_layout.specs.{Format.version_word_of, Role.{finder_ring, pattern_colour, role_of}, Version.side_of, declared.role.Role.TheVariants.Fixed}
use Rattle.qr_symbol.specs.Steps.Patterns.{fixed_colour, paint_of}
use Rattle.std.proofs.{Common.{◌≡◌, ℕ, ◌+◌, ◌-◌, ◌%◌, ◌<◌, ◌≤◌, Bool, true, false, eqb, leb, ltb, ◌&&◌, ◌||◌, refl, ap, arith}, lemmas.Bool.Decides.nat_tests}

-- the module with the index `at` in row 6, or in column 6, is dark; `s` is the side. The seven modules at each end of
-- this row or column belong to finder patterns, and are dark. Of the modules between them, those with an even index are
-- dark
abbrev pub is_dark_in_six : ℕ → ℕ → Bool
is_dark_in_six s at = ltb at 7 || leb (s - 7) at || eqb (at % 2) 0

-- a place in ring 3 of a finder pattern is dark
ring-three : (v r c : ℕ) → finder_ring (side_of v) r c ≡ 3 → role_of v r c ≡ Fixed true
unfolding role_of pattern_colour
ring-three v r c e = rw e refl

-- a place in ring 4 is light
ring-four : (v r c : ℕ) → finder_ring (side_of v) r c ≡ 4 → role_of v r c ≡ Fixed false
unfolding role_of pattern_colour
ring-four v r c e = rw e refl

-- of the places of row 6, or column 6, of a square of side s, those at both ends are in ring 3, and those beside them
-- in ring 4
record AreRingsOfSix (s at ring : ℕ) : Type 0 where
  pub near : at < 7 → ring ≡ 3
  pub far : s - 7 ≤ at → ring ≡ 3
  pub seven : at ≡ 7 → ring ≡ 4
  pub eight : at ≡ s - 8 → ring ≡ 4

-- row 6, or column 6: its ends are in ring 3 and ring 4 of finder patterns, and between them is a timing pattern
six : (v r c at : ℕ) → 21 ≤ side_of v → at < side_of v → AreRingsOfSix (side_of v) at (finder_ring (side_of v) r c)
    → (7 < at → at < side_of v - 8 → role_of v r c ≡ Fixed (eqb (at % 2) 0)) → role_of v r c ≡ Fixed (is_dark_in_six (side_of v) at)
six v r c at least inside rings off = search (arith, ring-three, ring-four)

-- between the finder patterns row 6 is a timing pattern
row-off : (v at : ℕ) → 5 ≤ finder_ring (side_of v) 6 at → role_of v 6 at ≡ Fixed (eqb (at % 2) 0)
unfolding role_of pattern_colour
row-off v at h = search (arith, nat_tests)

-- between the finder patterns column 6 is a timing pattern
column-off : (v at : ℕ) → 5 ≤ finder_ring (side_of v) at 6 → 7 < at → role_of v at 6 ≡ Fixed (eqb (at % 2) 0)
unfolding role_of pattern_colour
column-off v at h k = search (arith, nat_tests)

-- a module with a fixed colour is painted with this colour
pub paint-fixed : (v r c format : ℕ) (dark : Bool) → role_of v r c ≡ Fixed dark → paint_of v format r c ≡ dark
unfolding fixed_colour
paint-fixed v r c format dark e = ap (fixed_colour format (version_word_of v)) e

-- the colour that a module of row 6 is painted with
pub paint-row_six : (v at format : ℕ) → 1 ≤ v → at < side_of v → is_dark_in_six (side_of v) at ≡ paint_of v format 6 at
paint-row_six v at format l h = search (arith, paint-fixed, six, row-off)

-- the colour that a module of column 6 is painted with
pub paint-column_six : (v at format : ℕ) → 1 ≤ v → at < side_of v → is_dark_in_six (side_of v) at ≡ paint_of v format at 6
paint-column_six v at format l h = search (arith, paint-fixed, six, column-off)

-- the painted modules of row 6 and column 6, with one module more of each
pub six-more : (at r c : ℕ) → ((eqb r 6 && ltb c (at + 1)) || (eqb c 6 && ltb r (at + 1)))
    ≡ ((((eqb r 6 && ltb c at) || (eqb c 6 && ltb r at)) || (eqb r 6 && eqb c at)) || (eqb r at && eqb c 6))
six-more at r c = grind (arith, nat_tests)
