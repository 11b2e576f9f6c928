use Rattle.qr_mending.proofs.lemmas.mending.{mended-not-refused}
use Rattle.qr_mending.proofs.laws.mended_readings_are_not_refused.Goals as goal

pub returns : goal.returns
returns c = mended-not-refused
