use Rattle.{qr_matrix.proofs.lemmas.matrix_pair.PairLemmas.no-bits, std.proofs.Common.rules}
use Rattle.qr_matrix.proofs.matrix_pair.RowPairRows.is_empty.Goals as goal

pub returns : goal.returns
returns c = search (rules, no-bits)
