use Rattle.qr_mending.proofs.lemmas.laws.UndamagedLemmas.{reading-mended}
use Rattle.qr_mending.proofs.laws.readings_are_mended_readings.Goals as goal

pub returns : goal.returns
returns c = reading-mended
