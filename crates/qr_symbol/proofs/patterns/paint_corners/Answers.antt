use Rattle.{qr_layout.specs.{Region.is_corner, Role.role_of, Version.side_of}, qr_matrix.{proofs.Facts.square-same, specs.Grid.{Grid, colour}}}
use Rattle.qr_symbol.proofs.lemmas.patterns.{CornerLemmas.{begun, corners-done, dark-painted}, FinderLemmas.{near-right, near-below}}
use Rattle.qr_symbol.proofs.lemmas.patterns.{PaintLemmas.{over-is, over-place, over-side, over-twice}, TimingLemmas.{paint-row_six, paint-column_six}}
use Rattle.qr_symbol.{proofs.patterns.paint_corners.Goals.{After-paint_finder-3, After-set-3}, specs.Steps.Patterns.{format_or, paint_of, IsOver}}
use Rattle.std.proofs.{Common.{rules, ◌≡◌, ℕ, ◌-◌, cond, ap, sym, ◌∙◌, refl, arith}, lemmas.Bool.Decides.nat_tests}
use Rattle.qr_symbol.proofs.patterns.paint_corners.Goals as goal

-- the square after the three finder patterns has the side of the symbol
three-side : (c : After-paint_finder-3) → c.paint_finder-3.new.matrix.side ≡ side_of c.args.version
three-side c = over-side (c.paint_finder-3.ensures c.args.format)

abbrev side : Grid → ℕ
side g = g.side

pub paint_finder-requires-clause-nearest : goal.paint_finder-requires-clause-nearest
paint_finder-requires-clause-nearest c = search arith

pub paint_finder-requires-2-clause-nearest : goal.paint_finder-requires-2-clause-nearest
paint_finder-requires-2-clause-nearest c = rw c.side-side.ensures.value (λ r k. near-right _ r k (omega arith))

pub paint_finder-requires-3-clause-nearest : goal.paint_finder-requires-3-clause-nearest
paint_finder-requires-3-clause-nearest c = rw c.side-side.ensures.value (λ r k. near-below _ r k (omega arith))

pub paint_finder-requires-2-clause-square : goal.paint_finder-requires-2-clause-square
paint_finder-requires-2-clause-square c = (c.paint_finder.ensures c.args.format).square

pub paint_finder-requires-3-clause-square : goal.paint_finder-requires-3-clause-square
paint_finder-requires-3-clause-square c = (c.paint_finder-2.ensures c.args.format).square

pub set-requires : goal.set-requires
set-requires c = search (rules, three-side)

pub set-requires-2 : goal.set-requires-2
set-requires-2 c =
    let e = ap side c.set.ensures ∙ three-side (goal.at.set-requires-2 c).After-paint_finder-3 in record { row_in = omega arith; col_in = omega arith }

pub set-requires-3 : goal.set-requires-3
set-requires-3 c =
    let e = ap side c.set-2.ensures ∙ (ap side c.set.ensures ∙ three-side (goal.at.set-requires-3 c).After-paint_finder-3) in
    record { row_in = omega arith; col_in = omega arith }

-- the finder patterns and the modules beside them
all-begun : (c : After-set-3) → IsOver (side_of c.args.version) (begun c.side-side.result) (paint_of c.args.version c.args.format)
    (colour c.args.matrix.now) c.set-3.new.self
all-begun c =
    let v = c.args.version in let f = c.args.format in
    let p = paint_of v f in
    let p3 = over-twice _ (over-twice _ (c.paint_finder.ensures f) (c.paint_finder-2.ensures f) (λ _ _ _ _. refl)) (c.paint_finder-3.ensures f) (λ _ _ _ _. refl) in
    let p4 = over-twice _ p3 (over-place p _ _ 8 6 _ (over-side p3) (search (rules, paint-column_six, nat_tests)) c.set.ensures) (λ _ _ _ _. refl) in
    let p5 = over-twice _ p4 (over-place p _ _ 6 8 _ (over-side p4) (search (rules, paint-row_six, nat_tests)) c.set-2.ensures) (λ _ _ _ _. refl) in
    over-twice _ p5 (over-place p _ _ _ 8 _ (over-side p5) (dark-painted v f (omega arith) (omega arith) ∙ ap (λ (n : ℕ). p (n - 8) 8) (sym c.side-side.ensures.value)) c.set-3.ensures) (λ _ _ _ _. refl)

pub draw_format-requires : goal.draw_format-requires
draw_format-requires c = search (rules, all-begun)

pub returns : goal.returns
returns c =
    let v = c.args.version in let z = c.side-side.ensures.value in
    let all = all-begun (goal.at.returns c).After-set-3 in
    over-is (is_corner (side_of v)) (paint_of v c.args.format) (colour c.args.matrix.now) (
    c.draw_format.ensures ∙ square-same (side_of v) (λ r k. format_or c.args.format (role_of v r k) (colour c.set-3.new.self r k)) (λ r k. cond (is_corner (side_of v) r k) (paint_of v c.args.format r k) (colour c.args.matrix.now r k)) (λ r k l m.
    rw (all.colours r k l m, z) (corners-done v r k c.args.format (colour c.args.matrix.now r k) (omega arith) (omega arith) l m)))
