use Rattle.std.proofs.{Common.rules, lemmas.List.length-replicate}
use Rattle.qr_matrix.proofs.lemmas.{rows.never, matrix.MatrixLemmas.light-square, matrix_pair.PairLemmas.{dark-lanes, one-view}}
use Rattle.qr_matrix.proofs.matrix_pair.MatrixPair.new.Goals as goal

pub invariant_of-result : goal.invariant_of-result
invariant_of-result c = search (rules, length-replicate, dark-lanes, never)

pub returns : goal.returns
returns c = search (rules, one-view, light-square, dark-lanes, never)
