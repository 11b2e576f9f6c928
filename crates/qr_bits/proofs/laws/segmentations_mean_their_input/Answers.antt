use Rattle.qr_bits.proofs.lemmas.laws.MeantLemmas.{least-meant}
use Rattle.qr_bits.proofs.laws.segmentations_mean_their_input.Goals as goal

pub returns : goal.returns
returns c = least-meant
