use Rattle.qr_sampling.proofs.lemmas.laws.{drawn-sampled}
use Rattle.qr_sampling.proofs.laws.drawn_squares_are_sampled.Goals as goal

pub returns : goal.returns
returns c = drawn-sampled
