use Rattle.{qr_matrix.proofs.lemmas.matrix_pair.PairLemmas.{xor-pair, lane-xor}, std.proofs.Common.rules}
use Rattle.qr_matrix.proofs.matrix_pair.RowPairBitXor.bitxor.Goals as goal

pub invariant_of-result : goal.invariant_of-result
invariant_of-result c = search (rules, xor-pair)

pub returns : goal.returns
returns c = search (rules, lane-xor)
