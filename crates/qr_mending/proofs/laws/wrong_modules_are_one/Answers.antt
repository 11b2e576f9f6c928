use Rattle.qr_mending.proofs.lemmas.laws.SoundnessLemmas.{wrong-one}
use Rattle.qr_mending.proofs.laws.wrong_modules_are_one.Goals as goal

pub returns : goal.returns
returns c = wrong-one
