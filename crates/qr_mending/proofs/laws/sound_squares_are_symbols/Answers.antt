use Rattle.qr_mending.proofs.lemmas.laws.SoundnessLemmas.{sound-is}
use Rattle.qr_mending.proofs.laws.sound_squares_are_symbols.Goals as goal

pub returns : goal.returns
returns c = sound-is
