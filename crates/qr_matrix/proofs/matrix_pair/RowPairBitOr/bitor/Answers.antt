use Rattle.{qr_matrix.proofs.lemmas.matrix_pair.PairLemmas.{or-pair, lane-or}, std.proofs.Common.rules}
use Rattle.qr_matrix.proofs.matrix_pair.RowPairBitOr.bitor.Goals as goal

pub invariant_of-result : goal.invariant_of-result
invariant_of-result c = search (rules, or-pair)

pub returns : goal.returns
returns c = search (rules, lane-or)
