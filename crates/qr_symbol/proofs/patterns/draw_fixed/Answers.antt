use Rattle.qr_layout.proofs.Facts.{version-second, centres-inside, off-role, region-parts}
use Rattle.qr_layout.specs.{Format.version_word_of, Region.{is_in_region, is_timing, is_version_information, ring_of}, Role.is_alignment_light, Version.side_of}
use Rattle.{qr_layout.specs.declared.role.Role.TheVariants.{Fixed, Region}, qr_matrix.proofs.Facts.square-same}
use Rattle.qr_matrix.specs.{BitRow.has_bit, Grid.{Grid, colour, square}}
use Rattle.qr_symbol.proofs.lemmas.patterns.PaintLemmas.{fixed-tests, light-inside, over-item, over-none, over-place, over-ring, over-same, over-side, over-sized, over-twice}
use Rattle.qr_symbol.proofs.lemmas.patterns.TimingLemmas.{is_dark_in_six, paint-row_six, paint-column_six, six-more}
use Rattle.qr_symbol.proofs.{lemmas.patterns.VersionLemmas.{version_drawn, version-all, version-here}, patterns.draw_fixed.Goals.After-version_word}
use Rattle.qr_symbol.{proofs.lemmas.words.BitLemmas.set-bit, specs.Steps.Patterns.{fixed_colour, paint_of, IsOver}}
use Rattle.std.{proofs.{Common.{rules, ◌≡◌, ℕ, ◌/◌, ◌^◌, bit_and, Bool, true, cond, eqb, ltb, ◌&&◌, ◌||◌, ap, ◌∙◌, refl, arith}, lemmas.{Bool.Decides.nat_tests, List.{take_all}}}, specs.List.list_any}
use Rattle.qr_symbol.proofs.patterns.draw_fixed.Goals as goal

-- a module whose role is a fixed colour has this colour
fixed-cond : (format word : ℕ) (e q : Bool) → e ≡ true → fixed_colour format word (cond e (Fixed q) Region) ≡ q
unfolding fixed_colour
fixed-cond format word e q t = rw t refl

pub fill_alignment-requires : goal.fill_alignment-requires
fill_alignment-requires c = search (rules, centres-inside)

pub loop-centre-init : goal.loop-centre-init
loop-centre-init c = search (rules, centres-inside, over-none)

pub loop-centre-preserved : goal.loop-centre-preserved
loop-centre-preserved c = let i = c.loop-centre.invariant in record {
  centres = i.centres;
  inside = i.inside;
  so_far = over-item (λ m r k. eqb (ring_of m.row m.col r k) 1) _ _ _ c.loop-centre-test.true i.so_far (over-ring _ _ _ (over-sized (over-side i.so_far) c.fill_around.ensures) (rw c.dark-dark.ensures at c.set.ensures));
}

pub loop-at-init : goal.loop-at-init
loop-at-init c = search (rules, over-none, over-side, nat_tests)

pub loop-at-preserved : goal.loop-at-preserved
loop-at-preserved c =
    let v = c.args.version in let f = c.args.format in let at = c.loop-at.at in let i = c.loop-at.invariant in
    let d = c.if-at-side.dark in
    let side : c.side-side.result ≡ side_of v = c.side-side.ensures.value in
    let dark : d ≡ is_dark_in_six (side_of v) at = search rules in
    let in_row = over-twice (λ (r k : ℕ). ((eqb r 6 && ltb k at) || (eqb k 6 && ltb r at)) || (eqb r 6 && eqb k at)) i.painted
    (over-place _ _ _ 6 at d (over-side i.painted) (dark ∙ paint-row_six v at f (omega arith) (omega (arith, side))) c.set-in-loop-at.ensures) (λ _ _ _ _. refl) in
    let both = over-twice (λ r k. (eqb r 6 && ltb k _) || (eqb k 6 && ltb r _)) in_row
    (over-place _ _ _ at 6 d (over-side in_row) (dark ∙ paint-column_six v at f (omega arith) (omega (arith, side))) c.set-in-loop-at-2.ensures)
    (λ r k _ _. six-more at r k) in record { matrix_side = over-side both; painted = both }

pub loop-bit-init : goal.loop-bit-init
loop-bit-init c = search (rules, over-none, nat_tests)

pub loop-bit-preserved : goal.loop-bit-preserved
unfolding fixed_colour
loop-bit-preserved c =
    let v = c.args.version in let s = side_of v in let f = c.args.format in
    let n = c.loop-bit.bit in let i = c.loop-bit.invariant in
    let g = c.loop-bit.matrix in let d = eqb (bit_and (c.in-Some.word / 2 ^ n) 1) 1 in
    let bit : d ≡ has_bit (version_word_of v) n = search (rules, set-bit) in
    let set1 = rw c.side-side.ensures.value at c.set-in-loop-bit.ensures in
    let set2 = rw c.side-side.ensures.value at c.set-in-loop-bit-2.ensures in
    let first = over-twice (λ r k. version_drawn s n r k || (eqb r _ && eqb k _)) i.painted
    (over-place _ g c.set-in-loop-bit.new.self _ _ d i.side (bit ∙ version-here v f n (omega arith) (omega arith) (omega arith)) set1) (λ _ _ _ _. refl) in
    record {
      side = search rules;
      painted = over-twice (version_drawn s _) first
          (over-place _ c.set-in-loop-bit.new.self c.set-in-loop-bit-2.new.self _ _ d (over-side first) (search (rules, version-second)) set2)
          (search (arith, nat_tests));
    }

-- with the version information all that is outside the region is drawn
finished : (c : After-version_word) (g : Grid) → IsOver (side_of c.args.version) (is_version_information c.args.version) (paint_of c.args.version c.args.format) (colour c.loop-at.matrix) g
    → g ≡ square (side_of c.args.version) (λ r k. cond (is_in_region c.args.version r k) (colour c.args.matrix.now r k) (paint_of c.args.version c.args.format r k))
unfolding is_alignment_light
finished c g last =
    let v = c.args.version in let w = version_word_of v in
    let e : c.loop-at.at ≡ side_of v = omega (arith, c.side-side.ensures.value) in
    let timing = over-same {u = is_timing} c.loop-at.invariant.painted (search (rules, nat_tests)) in
    let i = c.loop-centre.invariant in
    let rings = over-same {u = is_alignment_light v} i.so_far (λ r k _ _.
    ap (list_any (λ m. eqb (ring_of m.row m.col r k) 1)) (take_all c.loop-centre.centre-index _ (omega arith) ∙ i.centres)) in
    last.square ∙ square-same (side_of v) (colour g) (λ r k. cond (is_in_region v r k) (colour c.args.matrix.now r k) ((paint_of v _) r k)) (λ r k l m.
    rw (last.colours r k l m, timing.colours r k l m, c.paint_corners.ensures.colours r k l m, rings.colours r k l m, c.fill_alignment.ensures.colours r k l m)
    (fixed-tests _ _ _ _ _ _ _ _ (region-parts v r k l m) (light-inside v r k) (λ a b d e.
    ap (fixed_colour _ w) (off-role v r k (omega arith) l m a b d) ∙ fixed-cond _ w _ _ e)))

pub returns-after-loop-bit : goal.returns-after-loop-bit
returns-after-loop-bit c =
    let e : c.loop-bit.bit ≡ 18 = omega arith in
    finished (goal.at.returns-after-loop-bit c).After-version_word _ (over-same c.loop-bit.invariant.painted (λ r k _ _. rw e (version-all c.args.version r k (omega arith))))

pub returns-in_default : goal.returns-in_default
returns-in_default c =
    let v = c.args.version in
    let none : IsOver (side_of v) (is_version_information v) (paint_of v c.args.format) (colour c.loop-at.matrix) c.loop-at.matrix = search rules in
    finished (goal.at.returns-in_default c).After-version_word _ none
