use Rattle.qr_layout.{proofs.Facts.Inside, specs.{Order.{IsOrder, in_region_of}, Strips.places_of, Version.side_of, declared.strips.Strip.Strip}}
use Rattle.qr_matrix.specs.{BitRow.has, Grid.{Grid, transposed, with_row}}
use Rattle.qr_symbol.proofs.lemmas.placement.{AcrossLemmas.{region-across, strip-drawn}, PlacementLemmas.places-push}
use Rattle.qr_symbol.proofs.placement.draw_codewords.Goals.{then-upward, else-upward, After-columns_of-columns}
use Rattle.qr_symbol.specs.{Steps.Placement.{number_at, AreDrawn, IsRegion}, declared.spans.Columns.Columns}
use Rattle.qr_symbol.proofs.lemmas.placement.PlacementLemmas.{placed-start, placed-strip, placed-small, placed-end, square-transposed}
use Rattle.std.{proofs.{Common.{rules, ◌≡◌, ℕ, ◌-◌, Bool, List, ap, ◌∙◌, sym, subst, arith}, lemmas.List.Elements.{All-head, All-tail}}, specs.List.All}
use Rattle.qr_symbol.proofs.placement.draw_codewords.Goals as goal

pub loop-strip-init : goal.loop-strip-init
loop-strip-init c =
    let v = c.args.version in
    let e = sym c.into_iter-strip-iterator.ensures.into_iter_gives in record {
      can_next = tt;
      is_finite = tt;
      inside = search rules;
      square = c.requires.square;
      placed = placed-start v _ _ _ (square-transposed _ _ c.requires.square) (subst (λ (xs : List Strip). IsOrder v (in_region_of v (places_of (side_of v) xs))) e c.all_strips-strip-items.ensures.order);
    }

-- the strip is in the square
inside : (c : After-columns_of-columns) → Inside c.args.version c.in-Some.strip
inside c = All-head (Inside c.args.version) _ _ (rw c.in-Some.ensures.steps at c.loop-strip.invariant.inside)

-- exactly the bits of the region are set in the columns of its square
is-region : (c : After-columns_of-columns) → IsRegion c.args.version c.in-Some.strip.right c.columns_of-within.result
is-region c row l = let i = inside c in search (rules, region-across)

pub draw_columns-number-requires-clause-region : goal.draw_columns-number-requires-clause-region
draw_columns-number-requires-clause-region c = is-region (goal.at.draw_columns-number-requires-clause-region c).After-columns_of-columns

pub draw_columns-number-requires-else-upward-clause-region : goal.draw_columns-number-requires-else-upward-clause-region
draw_columns-number-requires-else-upward-clause-region c = is-region (goal.at.draw_columns-number-requires-else-upward-clause-region c).After-columns_of-columns

pub draw_columns-number-requires-clause-few : goal.draw_columns-number-requires-clause-few
draw_columns-number-requires-clause-few c = placed-small _ _ _ _ _ _ _ (omega arith) (omega arith) c.loop-strip.invariant.placed

pub draw_columns-number-requires-else-upward-clause-few : goal.draw_columns-number-requires-else-upward-clause-few
draw_columns-number-requires-else-upward-clause-few c = placed-small _ _ _ _ _ _ _ (omega arith) (omega arith) c.loop-strip.invariant.placed

pub loop-strip-preserved : goal.loop-strip-preserved
loop-strip-preserved c =
    let v = c.args.version in let s = side_of v in
    let i = c.loop-strip.invariant in let x = c.in-Some.strip in
    let xs = c.loop-strip.yielded in let cw = c.args.codewords.now in
    let g0 = transposed _ in let n = c.loop-strip.number in
    let now = rw c.in-Some.ensures.steps at i.placed in
    let before = (goal.at.loop-strip-preserved c).After-columns_of-columns in
    let in-square = inside before in let region = is-region before in
    let g = c.loop-strip.across in let taken = c.columns_of-columns in
    let old : Columns = record { right = c.bitand-columns.result; left = c.bitand-columns-in-loop-strip.result } in
    let is-drawn = λ (next : ℕ) (new : Columns) (up : Bool). (next ≡ number_at v (record { right = x.right; upward = up }) n s) × AreDrawn v cw (record { right = x.right; upward = up }) n 0 s old new in
    let drawn : (c.if-upward.number ≡ number_at v x n s) × AreDrawn v cw x n 0 s old c.if-upward.columns = elim c.if-upward.branch [
      | then-upward w ↦ (let e = w.draw_columns-number.ensures in rw (w.columns-is, w.number-is) (subst (is-drawn w.draw_columns-number.result w.draw_columns-number.new.columns) (sym w.if-upward.true) (e.number, e.drawn)))
      | else-upward w ↦ (let e = w.draw_columns-number-else-upward.ensures in rw (w.columns-is, w.number-is) (subst (is-drawn w.draw_columns-number-else-upward.result w.draw_columns-number-else-upward.new.columns) (sym w.if-upward.false) (e.number, e.drawn)))
    ] in
    let strip = strip-drawn v cw x n c.if-upward.number g c.set_bit_row-in-loop-strip.new.self old c.if-upward.columns i.square in-square.0 in-square.1
    (c.set_bit_row-in-loop-strip.ensures ∙ ap (λ (z : Grid). with_row z (x.right - 1) (has c.if-upward.columns.left)) c.set_bit_row.ensures)
    (λ row l. rw (← (region row l).0, ← (region row l).1, ← taken.ensures.right row, ← taken.ensures.left row) (
      cc (c.bitand-columns.ensures row, c.not.ensures row (omega arith)),
      cc (c.bitand-columns-in-loop-strip.ensures row, c.not-in-loop-strip.ensures row (omega arith)),
    ))
    drawn.0 drawn.1 in
    record {
      can_next = tt;
      is_finite = tt;
      inside = All-tail (Inside v) x c.next.new.self (subst (All (Inside v)) c.in-Some.ensures.steps i.inside);
      square = strip.square;
      placed = rw (places-push s xs x) (placed-strip v cw g0 _ _ x _ _ n _ i.square now strip);
    }

pub returns-clause-placed : goal.returns-clause-placed
returns-clause-placed c = search (rules, placed-end)
