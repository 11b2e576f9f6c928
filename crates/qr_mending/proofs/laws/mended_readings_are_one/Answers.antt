use Rattle.qr_mending.proofs.lemmas.mending.{mended-reading-one}
use Rattle.qr_mending.proofs.laws.mended_readings_are_one.Goals as goal

pub returns : goal.returns
returns c = mended-reading-one
