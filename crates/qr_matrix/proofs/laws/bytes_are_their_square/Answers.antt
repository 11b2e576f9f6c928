use Rattle.{qr_matrix.proofs.lemmas.matrix.GridLemmas.colour-square, std.proofs.Common.rules}
use Rattle.qr_matrix.proofs.laws.bytes_are_their_square.Goals as goal

pub returns : goal.returns
returns c = search (rules, colour-square)
