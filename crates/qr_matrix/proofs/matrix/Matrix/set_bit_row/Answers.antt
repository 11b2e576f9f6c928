use Rattle.std.proofs.{Common.{rules, set, refl, ap, arith}, Math.ListN.length-set}
use Rattle.qr_matrix.{specs.{Grid.Grid, BitRow.has}, proofs.lemmas.matrix.MatrixLemmas.{line-set, line-inside, line-write}}
use Rattle.qr_matrix.proofs.matrix.Matrix.set_bit_row.Goals as goal

pub index_mut-requires : goal.index_mut-requires
index_mut-requires c = search rules

pub invariant_of-self : goal.invariant_of-self
invariant_of-self c = search (rules, line-set, length-set, line-inside)

pub returns : goal.returns
returns c =
    let m = c.self.inside in
    let e = ap (λ (g : Grid). g.side) c.self.view_is in
    line-write m.side c.args.row m.rows.items (set m.rows.items c.from.result c.args.bits) c.args.self.now c.args.bits (has c.args.bits) c.self.view_is
    (line-set m.rows.items c.args.row c.from.result c.args.bits c.from.ensures (omega (arith, c.self.invariant.2))) (λ k l. refl)
