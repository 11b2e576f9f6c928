use Rattle.{qr_matrix.proofs.lemmas.matrix_pair.WordsLemmas.{over-one, over-two, over-three}, std.proofs.Common.rules}
use Rattle.qr_matrix.proofs.matrix_pair.RowPair.put_words.Goals as goal

pub returns-in-1 : goal.returns-in-1
returns-in-1 c = search (rules, over-one)

pub returns-in-2 : goal.returns-in-2
returns-in-2 c = search (rules, over-two)

pub returns-in_default : goal.returns-in_default
returns-in_default c = search (rules, over-three)
