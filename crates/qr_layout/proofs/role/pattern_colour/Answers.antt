use Rattle.std.proofs.Common.{rules, ◌≡◌, ℕ, ◌≤◌, ◌<◌, ◌%◌, false, not, eqb, Some, None, cond, sym, ◌∙◌, arith}
use Rattle.{std.proofs.lemmas.Bool.Decides.nat_tests, qr_layout.proofs.lemmas.role.RolePlaceLemmas.off-pattern}
use Rattle.qr_layout.specs.{Region.is_alignment, Role.finder_ring, Role.is_alignment_light, Role.pattern_colour, Version.side_of}
use Rattle.qr_layout.proofs.role.pattern_colour.Goals as goal

-- the colour of a place by its ring n, its row, its column and the alignment patterns
module _ (v r c s n : ℕ) (side : s ≡ side_of v) (ring : n ≡ finder_ring s r c) where
  finder : n < 4 → Some (not (eqb n 2)) ≡ pattern_colour v r c
  unfolding pattern_colour
  finder h = grind (arith, nat_tests)

  separator : n ≡ 4 → Some false ≡ pattern_colour v r c
  unfolding pattern_colour
  separator h = grind (arith, nat_tests)

  row : 4 ≤ n → (n ≡ 4 → ⊥) → r ≡ 6 → Some (eqb (c % 2) 0) ≡ pattern_colour v r c
  unfolding pattern_colour
  row h k e = grind (arith, nat_tests)

  column : 4 ≤ n → (n ≡ 4 → ⊥) → (r ≡ 6 → ⊥) → c ≡ 6 → Some (eqb (r % 2) 0) ≡ pattern_colour v r c
  unfolding pattern_colour
  column h k e f = grind (arith, nat_tests)

  alignment : 4 ≤ n → (n ≡ 4 → ⊥) → (r ≡ 6 → ⊥) → (c ≡ 6 → ⊥) → cond (is_alignment v r c) (Some (not (is_alignment_light v r c))) None ≡ pattern_colour v r c
  alignment h k e f = search (rules, off-pattern)

pub returns-then-ring-lt4 : goal.returns-then-ring-lt4
returns-then-ring-lt4 c = finder _ _ _ _ _ c.side.ensures.value c.finder_ring-ring.ensures c.if-ring-lt4.true

pub returns-then-ring-eq4 : goal.returns-then-ring-eq4
returns-then-ring-eq4 c = separator _ _ _ _ _ c.side.ensures.value c.finder_ring-ring.ensures c.if-ring-eq4.true

pub returns-then-row-eq6 : goal.returns-then-row-eq6
returns-then-row-eq6 c = row _ _ _ _ _ c.side.ensures.value c.finder_ring-ring.ensures c.if-ring-lt4.false c.if-ring-eq4.false c.if-row-eq6.true

pub returns-then-col-eq6 : goal.returns-then-col-eq6
returns-then-col-eq6 c = column _ _ _ _ _ c.side.ensures.value c.finder_ring-ring.ensures c.if-ring-lt4.false c.if-ring-eq4.false c.if-row-eq6.false c.if-col-eq6.true

pub returns-then-is_in_alignment : goal.returns-then-is_in_alignment
returns-then-is_in_alignment c =
    rw c.is_alignment_light.ensures (rw (sym c.is_in_alignment.ensures ∙ c.if-is_in_alignment.true) at
    (alignment _ _ _ _ _ c.side.ensures.value c.finder_ring-ring.ensures c.if-ring-lt4.false c.if-ring-eq4.false c.if-row-eq6.false c.if-col-eq6.false))

pub returns : goal.returns
returns c =
    rw (sym c.is_in_alignment.ensures ∙ c.if-is_in_alignment.false) at
    (alignment _ _ _ _ _ c.side.ensures.value c.finder_ring-ring.ensures c.if-ring-lt4.false c.if-ring-eq4.false c.if-row-eq6.false c.if-col-eq6.false)
