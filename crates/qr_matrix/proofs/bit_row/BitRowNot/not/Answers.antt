use Rattle.{qr_matrix.proofs.lemmas.bit_row.{PlaceLemmas.words-small, SetLemmas.inverted-row}, std.proofs.Common.rules}
use Rattle.qr_matrix.proofs.bit_row.BitRowNot.not.Goals as goal

pub returns : goal.returns
returns c = search (rules, inverted-row, words-small)
