-- Finder patterns as three squares, each inside the one before.
use Rattle.qr_layout.specs.{Region.ring_of, Role.{finder_ring, pattern_colour, role_of}, Version.side_of}
use Rattle.qr_symbol.{proofs.lemmas.patterns.TimingLemmas.paint-fixed, specs.Steps.Patterns.{is_in_finder_area, paint_of}}
use Rattle.std.proofs.{Common.{◌≡◌, ℕ, ◌+◌, ◌-◌, ◌≤◌, Bool, true, false, not, cond, eqb, ltb, leb, ◌&&◌, sym, ◌∙◌, arith}, lemmas.Bool.Decides.nat_tests}

-- a finder pattern, painted in its area, hides what was there before
area-tests : (b f q w : Bool) → (f ≡ true → b ≡ true) → cond f q (cond b false w) ≡ cond b (f && q) w
area-tests b f q w h = grind (arith, nat_tests)

-- the places of a area are within ring 4, and the places within ring 3 are in the area
in-area : (a b r c top left : ℕ) → top + 3 ≤ a → a ≤ top + 4 → left + 3 ≤ b → b ≤ left + 4 → (leb top r && ltb r (top + 8) && leb left c && ltb c (left + 8)) ≡ true → ring_of a b r c ≤ 4
in-area a b r c top left h i j k e = grind (arith, nat_tests)

area-of : (a b r c top left : ℕ) → top + 3 ≤ a → a ≤ top + 4 → left + 3 ≤ b → b ≤ left + 4 → ltb (ring_of a b r c) 4 ≡ true → (leb top r && ltb r (top + 8) && leb left c && ltb c (left + 8)) ≡ true
area-of a b r c top left h i j k e = grind (arith, nat_tests)

-- the colours after a area is painted: a finder pattern and its separator inside it, the old colours outside
pub area-paint : (v r c a b top left format : ℕ) (w x y : Bool) → top + 3 ≤ a → a ≤ top + 4 → left + 3 ≤
    b → b ≤ left + 4 → (ring_of a b r c ≤ 4 → finder_ring (side_of v) r c ≡ ring_of a b r c) → x ≡ cond
    (is_in_finder_area top left r c) false w → y ≡ cond (ltb (ring_of a b r c) 4) (not (eqb (ring_of a b r c) 2)) x → y
    ≡ cond (is_in_finder_area top left r c) (paint_of v format r c) w
unfolding role_of pattern_colour
area-paint v r c a b top left format w x y h i j k near d e =
    e ∙ rw d (area-tests _ _ _ w (area-of a b r c top _ h i j k) ∙ in-its-area _ _ _ w (λ e.
    let n = in-area a b r c top _ h i j k e in sym (paint-fixed v r c _ _ (search (arith, nat_tests)))))
  where
    in-its-area : (t x y w : Bool) → (t ≡ true → x ≡ y) → cond t x w ≡ cond t y w
    in-its-area t x y w e = grind (arith, nat_tests)

pub near-right : (s r c : ℕ) → 21 ≤ s → ring_of 3 (s - 4) r c ≤ 4 → finder_ring s r c ≡ ring_of 3 (s - 4) r c
near-right s r c l n = omega arith

pub near-below : (s r c : ℕ) → 21 ≤ s → ring_of (s - 4) 3 r c ≤ 4 → finder_ring s r c ≡ ring_of (s - 4) 3 r c
near-below s r c l n = omega arith
