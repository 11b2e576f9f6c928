use Rattle.std.proofs.Common.{◌≡◌, ◌+◌, ◌*◌, ◌/◌, arith, rules}
use Rattle.qr_drawing.proofs.lemmas.text.{LineLemmas.{added-more, added-next, added-none}, CellLemmas.{cell-length, cells-length, light-quad, room-left}}
use Rattle.qr_drawing.proofs.text.push_light.Goals as goal

pub loop-quads-init : goal.loop-quads-init
loop-quads-init c = added-none c.args.text.now _

pub push_quad-requires : goal.push_quad-requires
push_quad-requires c = record { room = room-left _ _ _ _ c.args.count _ _ _ (λ k. cell-length c.args.style _ _) c.loop-quads.invariant (omega arith) c.requires.room }

pub loop-quads-preserved : goal.loop-quads-preserved
loop-quads-preserved c =
    let e : c.loop-quads.quads * 4 + 4 ≡ (c.loop-quads.quads + 1) * 4 = omega arith in
    rw (← e) (search (rules, added-more, light-quad))

pub loop-cells-init : goal.loop-cells-init
loop-cells-init c = search rules

pub push_cell-requires : goal.push_cell-requires
push_cell-requires c =
    omega (arith, room-left _ _ _ 1 c.args.count _ _ _ (λ k. cell-length c.args.style _ _) c.loop-cells.invariant (omega arith) c.requires.room)

pub loop-cells-preserved : goal.loop-cells-preserved
loop-cells-preserved c =
    let e : c.args.count / 4 * 4 + c.loop-cells.cells + 1 ≡ c.args.count / 4 * 4 + (c.loop-cells.cells + 1) = omega arith in
    search (rules, added-next)

pub returns-clause-items : goal.returns-clause-items
returns-clause-items c = search rules

pub returns-clause-len : goal.returns-clause-len
returns-clause-len c = search (rules, cells-length, cell-length)
