use Rattle.qr_matrix.proofs.lemmas.difference.{no-difference}
use Rattle.qr_matrix.proofs.laws.differences_tell_squares_apart.Goals as goal

pub returns : goal.returns
returns c = no-difference
