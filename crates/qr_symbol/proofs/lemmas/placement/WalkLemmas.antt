-- Drawing along the walk, where each bit is masked as it is placed.
use Rattle.{qr_bits.specs.Bits.codeword_bit, qr_layout.{proofs.Facts.{order-small, region-role, role-region}, specs.Format.{format_word_of, version_word_of}}}
use Rattle.qr_layout.specs.{Order.IsOrder, Region.is_in_region, Role.role_of, Version.side_of, declared.{level.Level.Level, region.Module.Module}}
use Rattle.qr_matrix.proofs.Facts.{same-place, colour-painted-here, colour-painted-there, square-same, colour-square}
use Rattle.qr_matrix.specs.Grid.{Grid, square, colour, light, painted, IsSquare}
use Rattle.qr_symbol.proofs.lemmas.placement.PlacementLemmas.{by_test, Done, done-start, next-number, painted-square, whole-next, whole-push, in-square}
use Rattle.qr_symbol.specs.{Mask.{inverts, inverted}, Steps.{Patterns.fixed_colour, Placement.walked_colour}, Symbol.{colour_of, grid_of}}
use Rattle.std.proofs.Common.{◌≡◌, ℕ, ◌+◌, ◌<◌, ◌≤◌, Bool, false, cond, not, List, [], ◌∷◌, ◌++◌, length, length-append, refl, ap, arith}
use Rattle.std.proofs.lemmas.Bool.Decides.{nat_tests}
use mathlib.Core.Bool.{beq}

-- outside the region the colour stays
walked-outside : (v : ℕ) (cw : List ℕ) (mask : ℕ) (f : ℕ → ℕ → Bool) (r c : ℕ) → is_in_region v r c ≡ false → f r c ≡ walked_colour v cw mask f r c
unfolding walked_colour
walked-outside v cw mask f r c e = rw e refl

-- the modules of the walk in `front` have been drawn, and those in `later` are still to come
pub record IsWalked (v : ℕ) (cw : List ℕ) (mask : ℕ) (g0 : Grid) (front later : List Module) (number : ℕ) (g : Grid) : Type 0 where
  pub whole : IsOrder v (front ++ later)
  pub next : number ≡ length front
  pub square : IsSquare (side_of v) g
  pub done : Done (side_of v) (walked_colour v cw mask (colour g0)) later g

-- at first no module has been drawn
pub walked-start : (v : ℕ) (cw : List ℕ) (mask : ℕ) (g : Grid) (ms : List Module) → IsSquare (side_of v) g → IsOrder v ms → IsWalked v cw mask g [] ms 0 g
walked-start v cw mask g ms s o = search (arith, done-start, walked-outside)

-- the next module is in the square
pub walked-in : (v : ℕ) (cw : List ℕ) (mask : ℕ) (g0 g : Grid) (front now later : List Module) (x : Module) (number : ℕ) → IsWalked v cw mask g0 front now number g → now ≡ x ∷ later → (x.row < g.side) × (x.col < g.side)
walked-in v cw mask g0 g front now later x number w e =
    let l = in-square v _ _ x (whole-next v _ now _ x w.whole e) in search arith

-- one module is drawn
pub walked-step : (v : ℕ) (cw : List ℕ) (mask : ℕ) (g0 g : Grid) (front now later : List Module) (x : Module)
    (number : ℕ) (bit turned : Bool) → bit ≡ codeword_bit cw number → turned ≡ inverts mask x.row x.col →
    now ≡ x ∷ later → IsWalked v cw mask g0 front now number g → IsWalked v cw mask g0 (front ++ x ∷ []) later
    (number + 1) (painted g x.row x.col (not (beq bit turned)))
unfolding walked_colour
walked-step v cw mask g0 g front now later x number bit turned b t e w =
    let o = whole-next v _ now _ x w.whole e in let s = ap (λ (h : Grid). h.side) w.square in
    let n = next-number v _ _ x _ o w.next in
    let d : not (beq bit turned) ≡ inverted (inverts mask x.row x.col) (codeword_bit cw number) = search (arith, nat_tests) in record {
      whole = whole-push v _ _ x o;
      next = cc (length-append _ _);
      square = painted-square (side_of v) g x.row x.col _ s;
      done = search (arith, codeword_bit, same-place, colour-painted-here, colour-painted-there);
    }

-- the number of the next bit is at most the number of all modules of the region
pub walked-small : (v : ℕ) (cw : List ℕ) (mask : ℕ) (g0 g : Grid) (front later : List Module) (number : ℕ) → 1 ≤ v → v ≤ 40 → IsWalked v cw mask g0 front later number g → number ≤ 29648
walked-small v cw mask g0 g front later number k l w =
    let m = order-small v _ k l w.whole in search (arith, length-append)

-- the fixed patterns, drawn over a light square
pub fixed-alone : (v format : ℕ) (g h : Grid) → 1 ≤ v → g ≡ light (side_of v) → h ≡ square (side_of v) (λ r c. cond (is_in_region v r c) (colour g r c) (fixed_colour format (version_word_of v) (role_of v r c)))
    → h ≡ square (side_of v) (λ r c. fixed_colour format (version_word_of v) (role_of v r c))
unfolding fixed_colour
fixed-alone v format g h k e f = search (arith, square-same, by_test, colour-square, region-role)

-- what is drawn along the walk over the fixed patterns is the symbol of the codewords
pub walked-all : (v : ℕ) (l : Level) (mask : ℕ) (cw : List ℕ) (g h : Grid) → 1 ≤ v → g ≡ square (side_of v) (λ r c. fixed_colour (format_word_of l mask) (version_word_of v) (role_of v r c))
    → h ≡ square (side_of v) (walked_colour v cw mask (colour g)) → h ≡ grid_of v l mask cw
unfolding colour_of walked_colour fixed_colour
walked-all v l mask cw g h k e f = search (arith, square-same, by_test, region-role, walked-outside, colour-square, role-region)
