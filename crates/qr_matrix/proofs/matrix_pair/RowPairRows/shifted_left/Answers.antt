use Rattle.{qr_matrix.proofs.lemmas.matrix_pair.PairLemmas.{into-down, last-down, lane-down}, std.proofs.Common.rules}
use Rattle.qr_matrix.proofs.matrix_pair.RowPairRows.shifted_left.Goals as goal

pub invariant_of-result : goal.invariant_of-result
invariant_of-result c =
    let a = c.self.inside in let p = c.self.invariant in let k = c.from-down.result in let j = c.from-up.result in
    (into-down a.low a.middle k j p.0 p.1, into-down a.middle a.high k j p.1 p.2, last-down a.high k p.2)

pub returns : goal.returns
returns c = search (rules, lane-down)
