use Rattle.std.proofs.Common.{rules, ◌<◌, length, ◌*◌, ◌&&◌, ap, ◌∙◌, false, refl, arith}
use Rattle.qr_matrix.specs.{Grid.one_of, BitRow.has, Steps.{lane, lanes}}
use Rattle.qr_matrix.proofs.lemmas.{bit_row.BoolLemmas.false-and, matrix.MatrixLemmas.{row-of-square, row-past, words-kept}, matrix_pair.PairLemmas.{lane-read, lanes-long, side-of, square-of}}
use Rattle.qr_matrix.proofs.matrix_pair.MatrixPairSquares.row_in.Goals as goal

pub returns-clause-colours : goal.returns-clause-colours
returns-clause-colours c = λ s k.
    let m = c.self.inside in
    let here = c.index.result.now in
    let row = lane here s in
    let e = side-of m.side m.rows.items c.args.self.now c.self.view_is false in
    let l = lane-read m.rows.items c.args.row here s (omega (arith, c.self.invariant.1, c.self.invariant.2)) c.index.ensures in
    let long : c.args.row < length (lanes m.rows.items s) = search (rules, lanes-long) in
    c.bitand.ensures s k ∙ (ap (λ z. has row k && z) (c.below_in.ensures s k) ∙ words-kept m.side (64 * c.args.words) k (has row k) (omega (arith, c.requires.width.most)) (λ n. row-past m.side c.args.row c.args.row (lanes m.rows.items s) row refl long (c.self.invariant.3 s) l k n)
    ∙ row-of-square m.side c.args.row c.args.row (lanes m.rows.items s) row (one_of c.args.self.now s) (square-of m.side m.rows.items c.args.self.now c.self.view_is s) refl long (omega arith) (c.self.invariant.3 s) l k)

pub returns-clause-past : goal.returns-clause-past
returns-clause-past c = λ s k n.
    let m = c.self.inside in
    let here = c.index.result.now in
    let row = lane here s in
    let e = side-of m.side m.rows.items c.args.self.now c.self.view_is false in
    let l = lane-read m.rows.items c.args.row here s (omega (arith, c.self.invariant.1, c.self.invariant.2)) c.index.ensures in
    c.bitand.ensures s k ∙ false-and (has row k) _ (row-past m.side c.args.row c.args.row (lanes m.rows.items s) row refl (omega (arith, lanes-long m.rows.items s, c.self.invariant.1, c.self.invariant.2)) (c.self.invariant.3 s) l k (omega arith))
