use Rattle.{qr_matrix.proofs.lemmas.bit_row.{PlaceLemmas.words-small, SetLemmas.set-up}, std.proofs.Common.rules}
use Rattle.qr_matrix.proofs.bit_row.BitRow.ones_from.Goals as goal

pub returns-clause-few : goal.returns-clause-few
returns-clause-few c = search (rules, set-up, words-small)

pub returns-clause-set : goal.returns-clause-set
returns-clause-set c = search (rules, set-up, words-small)

pub returns-clause-ends : goal.returns-clause-ends
returns-clause-ends c = search (rules, set-up, words-small)
