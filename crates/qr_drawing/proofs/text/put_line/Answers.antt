use Rattle.std.proofs.{Math.Nat.add-mul, Common.{◌≡◌, ◌≤◌, ◌+◌, ◌-◌, ◌++◌, List, ℕ, append_assoc, ap, length, refl, arith, rules}, lemmas.{List.length-take, Result.err_from_is_err_and}}
use Rattle.qr_matrix.specs.BitRow.{has_bit}
use Rattle.qr_drawing.specs.{Raster.texts_below, Steps.Text.{bits_text, cell_at, cell_room, cell_text, top_row}}
use Rattle.qr_devices.proofs.Facts.{formed, stops-before, stops-between, stops-first, writes-on}
use Rattle.qr_drawing.proofs.lemmas.{text.LineLemmas.{added-next, added-none}}
use Rattle.qr_drawing.proofs.lemmas.text.CellLemmas.{added-cells, cell-length, cells-length, eight-quads, later-cells, line-parts, room-cells, room-left, room-quad}
use Rattle.qr_drawing.proofs.text.put_line.{Given.Over, Goals.{Joined-left-ge4, Joined-style, else-left-ge4, in-HalfBlocks, in-Plain, then-left-ge4}}
use Rattle.qr_drawing.proofs.text.put_line.Goals as goal

-- if three parts are added one after the other, all three together are added
parts : (h t u v a b c : List ℕ) → t ≡ h ++ a → u ≡ t ++ b → v ≡ u ++ c → v ≡ h ++ (a ++ (b ++ c))
parts h t u v a b c p q r = cc (append_assoc (h ++ a) b c, append_assoc h a (b ++ c))

-- the room of a cell, and the first row of the line
style-is : (g : Over) (c : Joined-style g) → (c.match-style.most.0 ≡ cell_room c.args.look.style) × (c.match-style.most.1 ≡ top_row c.args.look.style c.args.y)
style-is g c = search (rules, in-Plain, in-HalfBlocks)

-- the first columns are in the pen, and the bits that are left are the last columns
columns : (g : Over) (c : Joined-left-ge4 g) → c.match-style.most.1 ≡ top_row c.args.look.style c.args.y →
    let side = (g.M.Eights.seen c.args.square.now).side in
    let cells = λ (n first : ℕ). texts_below n (λ i. cell_at c.args.look.style c.args.look.margin (g.M.Eights.seen c.args.square.now) (top_row c.args.look.style c.args.y) (first + i)) in
    (c.if-left-ge4.pen.piece ≡ c.reserve-2.new.self.piece ++ cells (side - c.if-left-ge4.left) c.args.look.margin)
    × (c.if-left-ge4.pen.interrupted ≡ c.reserve-2.new.self.interrupted) × (c.if-left-ge4.left ≤ side)
    × (bits_text c.if-left-ge4.left c.args.look.style c.if-left-ge4.upper c.if-left-ge4.lower ≡ cells c.if-left-ge4.left (c.args.look.margin + (side - c.if-left-ge4.left)))
columns g c row =
    let i = c.eights.invariant in
    let side = (g.M.Eights.seen c.args.square.now).side in
    rw (← row) (elim c.if-left-ge4.branch [
      | then-left-ge4 w ↦
          let e : side - (c.side-side.result - c.eights.col - 4) ≡ c.eights.col + 4 = omega arith in
          rw (w.pen-is, w.left-is, w.upper-is, w.lower-is, e) (
            added-cells c.args.look.style _ _ _ _ 4 _ _ _ _ _ (omega arith) (omega arith)
                c.dark_bits-upper-2.ensures c.dark_bits-lower-2.ensures i.items w.push_quad-then-left-ge4.ensures,
            refl,
            omega arith,
            later-cells c.args.look.style _ _ _ c.eights.col 4 _ _ _ _ _ (omega arith) (omega arith) c.dark_bits-upper-2.ensures c.dark_bits-lower-2.ensures refl refl,
          )
      | else-left-ge4 w ↦
          let e : side - (c.side-side.result - c.eights.col) ≡ c.eights.col + 0 = omega arith in
          let start : c.eights.col + 0 ≡ c.eights.col = omega arith in
          rw (w.pen-is, w.left-is, w.upper-is, w.lower-is, e) (
            rw start i.items,
            refl,
            omega arith,
            later-cells c.args.look.style _ _ _ c.eights.col 0 _ _ _ _ _ (omega arith) (omega arith) c.dark_bits-upper-2.ensures c.dark_bits-lower-2.ensures (omega arith) (omega arith),
          )
    ])

pub returns-in_err-reserve : goal.returns-in_err-reserve
returns-in_err-reserve g c = rw ((err_from_is_err_and c.from_residual.result c.from_residual.ensures.1).1) (stops-before _ _ _ _ _ c.in_err-reserve.ensures.writes)

pub returns-in_err-reserve-2 : goal.returns-in_err-reserve-2
returns-in_err-reserve-2 g c =
    let p = err_from_is_err_and c.from_residual-in_err-reserve-2.result c.from_residual-in_err-reserve-2.ensures.1 in
    let held = c.args.pen.now.piece in
    rw (p.1, line-parts c.args.look.style c.args.look.margin (g.M.Eights.seen c.args.square.now) c.args.y 0 (g.M.Eights.seen c.args.square.now).side (omega arith))
    (stops-first _ _ _ held _ _ (stops-between _ _ _ _ _ held _ _ _
    (formed _ _ _ _ held _ _ _ c.in_ok-reserve.ensures.writes (rw c.from-margins.ensures at c.push_light.ensures.items)) c.in_err-reserve-2.ensures.writes))

pub eights-init : goal.eights-init
eights-init g c = search (rules, added-none)

pub push_quad-requires : goal.push_quad-requires
push_quad-requires g c =
    let most = (style-is g (goal.at.push_quad-requires g c).Joined-style).0 in
    let fits = rw (c.from-2.ensures, c.side-side.ensures.value, most) at c.in_ok-reserve-2.ensures.room in
    record { room = omega (arith, room-cells c.args.look.style _ _ _ _ _ 8 _ _ _ c.eights.invariant.items (omega arith) fits) }

pub push_quad-requires-in-eights : goal.push_quad-requires-in-eights
push_quad-requires-in-eights g c =
    let most = (style-is g (goal.at.push_quad-requires-in-eights g c).Joined-style).0 in
    let fits = rw (c.from-2.ensures, c.side-side.ensures.value, most) at c.in_ok-reserve-2.ensures.room in
    record { room = room-quad c.args.look.style _ _ _ _ c.push_quad.ensures (room-cells c.args.look.style _ _ _ _ _ 8 _ _ _ c.eights.invariant.items (omega arith) fits) }

pub eights-preserved : goal.eights-preserved
eights-preserved g c =
    let i = c.eights.invariant in
    record {
      within = omega arith;
      whole = omega (arith, i.whole);
      items = added-cells c.args.look.style _ _ _ _ 8 _ _ _ _ _ (omega arith) (omega arith) c.dark_bits-upper.ensures c.dark_bits-lower.ensures i.items
          (search (rules, eight-quads));
    }

pub push_quad-requires-then-left-ge4 : goal.push_quad-requires-then-left-ge4
push_quad-requires-then-left-ge4 g c =
    let most = (style-is g (goal.at.push_quad-requires-then-left-ge4 g c).Joined-style).0 in
    let fits = rw (c.from-2.ensures, c.side-side.ensures.value, most) at c.in_ok-reserve-2.ensures.room in
    record { room = room-cells c.args.look.style _ _ _ _ _ 4 _ _ _ c.eights.invariant.items (omega arith) fits }

pub invariant_of-pen-then-left-ge4-clause-full : goal.invariant_of-pen-then-left-ge4-clause-full
invariant_of-pen-then-left-ge4-clause-full g c =
    let most = (style-is g (goal.at.invariant_of-pen-then-left-ge4-clause-full g c).Joined-style).0 in
    let fits = rw (c.from-2.ensures, c.side-side.ensures.value, most) at c.in_ok-reserve-2.ensures.room in
    let room = room-cells c.args.look.style _ _ _ _ _ 4 _ _ _ c.eights.invariant.items (omega arith) fits in
    grind (arith, room-left _ _ 4 0 4 (cell_room c.args.look.style) 1200 _ (λ k. cell-length c.args.look.style _ _) c.push_quad-then-left-ge4.ensures (omega arith) room)

pub invariant_of-pen-else-left-ge4-clause-full : goal.invariant_of-pen-else-left-ge4-clause-full
invariant_of-pen-else-left-ge4-clause-full g c =
    let most = (style-is g (goal.at.invariant_of-pen-else-left-ge4-clause-full g c).Joined-style).0 in
    let fits = rw (c.from-2.ensures, c.side-side.ensures.value, most) at c.in_ok-reserve-2.ensures.room in
    grind (arith, room-cells c.args.look.style _ _ _ _ _ 0 _ _ _ c.eights.invariant.items (omega arith) fits)

pub returns-in_err-reserve-3 : goal.returns-in_err-reserve-3
returns-in_err-reserve-3 g c =
    let p = err_from_is_err_and c.from_residual-in_err-reserve-3.result c.from_residual-in_err-reserve-3.ensures.1 in
    let held = c.args.pen.now.piece in
    let left = rw c.from-margins.ensures at c.push_light.ensures.items in
    let at = goal.at.returns-in_err-reserve-3 g c in
    let done = columns g at.Joined-left-ge4 (style-is g at.Joined-style).1 in
    rw (p.1, line-parts c.args.look.style c.args.look.margin (g.M.Eights.seen c.args.square.now) c.args.y ((g.M.Eights.seen c.args.square.now).side - c.if-left-ge4.left) c.if-left-ge4.left (omega (arith, done.2)))
    (stops-between _ _ _ _ _ held _ _ _ (writes-on _ _ _ _ _ _ held _ _ _ _
    (formed _ _ _ _ held _ _ _ c.in_ok-reserve.ensures.writes left)
    (formed _ _ _ _ _ _ _ _ c.in_ok-reserve-2.ensures.writes done.0)) (rw done.1 at c.in_err-reserve-3.ensures.writes))

pub loop-done-init : goal.loop-done-init
loop-done-init g c = added-none _ _

pub push_cell-requires : goal.push_cell-requires
push_cell-requires g c =
    let most = (style-is g (goal.at.push_cell-requires g c).Joined-style).0 in
    let fits = rw (c.from-4.ensures, c.from-3.ensures, c.from-margins.ensures, most, add-mul) at c.in_ok-reserve-3.ensures.room in
    record { room = grind (arith, room-left _ _ _ 1 c.if-left-ge4.left (cell_room c.args.look.style) 1200 _ (λ k. cell-length c.args.look.style _ _) c.loop-done.invariant) }

pub loop-done-preserved : goal.loop-done-preserved
unfolding has_bit
loop-done-preserved g c =
    added-next _ _ _ _ (λ i. cell_text c.args.look.style (has_bit c.if-left-ge4.upper i) (has_bit c.if-left-ge4.lower i)) c.loop-done.invariant c.push_cell.ensures

pub push_light-requires-2 : goal.push_light-requires-2
push_light-requires-2 g c =
    let most = (style-is g (goal.at.push_light-requires-2 g c).Joined-style).0 in
    let fits = rw (c.from-4.ensures, c.from-3.ensures, c.from-margins.ensures, most, add-mul) at c.in_ok-reserve-3.ensures.room in
    let few = cells-length _ _ _ c.if-left-ge4.left (cell_room c.args.look.style) _ (λ k. cell-length c.args.look.style _ _) c.loop-done.invariant c.loop-done.auto.done-end in
    record { room = rw c.from-margins.ensures (omega (arith, few, fits)) }

pub prove-unreachable-requires : goal.prove-unreachable-requires
prove-unreachable-requires g c =
    let most = (style-is g (goal.at.prove-unreachable-requires g c).Joined-style).0 in
    let fits = rw (c.from-4.ensures, c.from-3.ensures, c.from-margins.ensures, most, add-mul) at c.in_ok-reserve-3.ensures.room in
    let few = cells-length _ _ _ c.if-left-ge4.left (cell_room c.args.look.style) _ (λ k. cell-length c.args.look.style _ _) c.loop-done.invariant c.loop-done.auto.done-end in
    let long = length-take c.text.inside.len c.text.inside.bytes in
    omega (arith, few, fits, rw c.from-margins.ensures at c.push_light-2.ensures.len, long, ap length c.text.view_is, c.text.invariant.0, c.text.invariant.1, c.if-prove.true)

pub push_all-requires : goal.push_all-requires
push_all-requires g c =
    (omega arith, omega (arith, (length-take c.text.inside.len c.text.inside.bytes), ap length c.text.view_is, c.text.invariant.0, c.text.invariant.1, c.if-prove.false))

pub returns : goal.returns
returns g c =
    let held = c.args.pen.now.piece in
    let at = goal.at.returns g c in
    let left = rw c.from-margins.ensures at c.push_light.ensures.items in
    let done = columns g at.Joined-left-ge4 (style-is g at.Joined-style).1 in
    let e : c.loop-done.done ≡ c.if-left-ge4.left = omega arith in
    let rest = parts _ _ _ _ _ _ _ (rw (e, done.3) at c.loop-done.invariant)
    (rw c.from-margins.ensures at c.push_light-2.ensures.items) c.push_all.ensures.items in
    rw (line-parts c.args.look.style c.args.look.margin (g.M.Eights.seen c.args.square.now) c.args.y ((g.M.Eights.seen c.args.square.now).side - c.if-left-ge4.left) c.if-left-ge4.left (omega (arith, done.2)))
    (writes-on _ _ _ _ _ _ held _ _ _ _ (writes-on _ _ _ _ _ _ held _ _ _ _
    (formed _ _ _ _ held _ _ _ c.in_ok-reserve.ensures.writes left)
    (formed _ _ _ _ _ _ _ _ c.in_ok-reserve-2.ensures.writes done.0))
    (formed _ _ _ _ _ _ _ _ (rw done.1 at c.in_ok-reserve-3.ensures.writes) rest))

pub overflow_mul-from-2 : goal.overflow_mul-from-2
overflow_mul-from-2 g c = grind arith

pub overflow_mul-from-3 : goal.overflow_mul-from-3
overflow_mul-from-3 g c = grind arith

pub overflow_add-from-2 : goal.overflow_add-from-2
overflow_add-from-2 g c = grind arith

pub reserve-requires-3 : goal.reserve-requires-3
reserve-requires-3 g c = grind arith
