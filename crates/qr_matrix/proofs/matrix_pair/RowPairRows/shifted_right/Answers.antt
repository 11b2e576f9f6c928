use Rattle.{qr_matrix.proofs.lemmas.matrix_pair.PairLemmas.{into-up, first-up, lane-up}, std.proofs.Common.rules}
use Rattle.qr_matrix.proofs.matrix_pair.RowPairRows.shifted_right.Goals as goal

pub invariant_of-result : goal.invariant_of-result
invariant_of-result c =
    let a = c.self.inside in let p = c.self.invariant in
    (first-up a.low 1 p.0, into-up a.middle a.low 1 63 p.1 p.0, into-up a.high a.middle 1 63 p.2 p.1)

pub returns : goal.returns
returns c = search (rules, lane-up)
