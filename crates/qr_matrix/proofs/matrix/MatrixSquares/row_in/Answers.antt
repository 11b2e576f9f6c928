use Rattle.std.proofs.Common.{rules, false, ◌*◌, ◌&&◌, ap, ◌∙◌, arith}
use Rattle.qr_matrix.{specs.BitRow.has, proofs.lemmas.{bit_row.BoolLemmas.false-and, matrix.MatrixLemmas.words-kept}}
use Rattle.qr_matrix.proofs.matrix.MatrixSquares.row_in.Goals as goal

pub returns-clause-colours : goal.returns-clause-colours
returns-clause-colours c = λ _ k.
    let row = has c.bit_row.result k in
    c.bitand.ensures k ∙ (ap (λ z. row && z) (c.below_in.ensures false k)
    ∙ (words-kept c.args.self.now.side (64 * c.args.words) k row (omega (arith, c.requires.width.most)) (λ l. c.bit_row.ensures.past k l) ∙ c.bit_row.ensures.colours k))

pub returns-clause-past : goal.returns-clause-past
returns-clause-past c = search (rules, false-and)
