use Rattle.qr_layout.{proofs.Facts.{centres-inside, fixed-inside, region_outside}, specs.{Rectangles.is_in_rectangle, Region.{is_alignment, is_in_region}}}
use Rattle.{qr_layout.specs.Version.side_of, qr_matrix.{proofs.Facts.square-same, specs.Grid.{Grid, colour}}}
use Rattle.qr_symbol.proofs.lemmas.patterns.PaintLemmas.{no_rectangle, over-item, over-none, over-rectangle, over-side, region-tests}
use Rattle.qr_symbol.{proofs.patterns.region_of.Goals.After-fill, specs.Steps.Patterns.IsOver}
use Rattle.std.proofs.{Common.{rules, ◌≡◌, ℕ, Bool, true, ◌&&◌, leb, ltb, take, sym, ap, ◌∙◌, arith}, lemmas.{Bool.Decides.nat_tests, List.take_all}}
use Rattle.std.specs.List.{list_any}
use Rattle.qr_symbol.proofs.patterns.region_of.Goals as goal

-- the test that a place is in the square
abbrev whole : ℕ → ℕ → ℕ → Bool
whole s r c = leb 0 r && ltb r s && leb 0 c && ltb c s

-- at first the whole square is dark
all-dark : (c : After-fill) → IsOver (side_of c.args.version) (whole c.side-side.result) (λ _ _. true) (colour
    c.in_ok-region.region) c.fill.new.self
all-dark c = over-rectangle _ 0 _ 0 _ (ap (λ (g : Grid). g.side) c.in_ok-region.ensures ∙ c.side-side.ensures.value) c.fill.ensures

pub loop-rectangle-init : goal.loop-rectangle-init
loop-rectangle-init c = search (rules, fixed-inside, over-none, all-dark)

pub loop-rectangle-preserved : goal.loop-rectangle-preserved
loop-rectangle-preserved c =
    let bs = c.as_slice-rectangle-items.result.now in let n = c.loop-rectangle.rectangle-index in
    let i = c.loop-rectangle.invariant in record {
      inside = i.inside;
      so_far = over-item (λ b r k. is_in_rectangle r k b) bs n no_rectangle c.loop-rectangle-test.true i.so_far (over-rectangle _ _ _ _ _ (over-side i.so_far) c.fill-in-loop-rectangle.ensures);
    }

pub fill_alignment-requires : goal.fill_alignment-requires
fill_alignment-requires c = search (rules, centres-inside)

pub returns : goal.returns
returns c =
    let v = c.args.version in let s = side_of v in
    let fs = c.fixed_rectangles-fixed.result.items in let last = c.fill_alignment.ensures in
    let all : take c.loop-rectangle.rectangle-index c.as_slice-rectangle-items.result.now ≡ fs = take_all _ _ (omega arith) ∙ c.as_slice-rectangle-items.ensures.value in
    let cleared = rw all at c.loop-rectangle.invariant.so_far in
    last.square ∙ square-same s (colour c.fill_alignment.new.matrix) (is_in_region v) (λ r k l m.
    let side : c.side-side.result ≡ s = c.side-side.ensures.value in
    let t : whole c.side-side.result r k ≡ true = grind (arith, nat_tests) in
    rw (last.colours r k l m, cleared.colours r k l m, (all-dark (goal.at.returns c).After-fill).colours r k l m, t)
    (region-tests (list_any (is_in_rectangle r k) fs) (is_alignment v r k) ∙ sym (region_outside v fs c.fixed_rectangles-fixed.ensures r k l m)))
