use Rattle.{qr_matrix.{proofs.lemmas.matrix.MatrixLemmas.{row-read, row-past}, specs.Grid.Grid}, std.proofs.Common.{rules, refl, ap, arith}}
use Rattle.qr_matrix.proofs.matrix.Matrix.bit_row.Goals as goal

pub index-requires : goal.index-requires
index-requires c = search rules

pub returns-clause-colours : goal.returns-clause-colours
returns-clause-colours c = search (rules, row-read)

pub returns-clause-past : goal.returns-clause-past
returns-clause-past c = λ k l.
    let m = c.self.inside in
    let e = ap (λ (g : Grid). g.side) c.self.view_is in
    row-past m.side c.args.row c.args.row m.rows.items c.index.result.now refl (omega (arith, c.self.invariant.2)) c.self.invariant.3 c.index.ensures k (omega arith)

pub returns-clause-few : goal.returns-clause-few
returns-clause-few c = search rules
