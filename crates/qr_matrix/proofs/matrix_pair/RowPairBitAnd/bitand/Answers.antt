use Rattle.{qr_matrix.proofs.lemmas.{bit_row.PlaceLemmas.and-small, matrix_pair.PairLemmas.{word-small, zip-pair, lane-and}}, std.proofs.Common.{arith, rules}}
use Rattle.qr_matrix.proofs.matrix_pair.RowPairBitAnd.bitand.Goals as goal

pub invariant_of-result : goal.invariant_of-result
invariant_of-result c = search (arith, zip-pair, and-small, word-small)

pub returns : goal.returns
returns c = search (rules, lane-and)
