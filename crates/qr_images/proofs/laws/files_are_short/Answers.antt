use Rattle.qr_images.proofs.lemmas.laws.LengthLemmas.{files-short}
use Rattle.qr_images.proofs.laws.files_are_short.Goals as goal

pub returns : goal.returns
returns c = files-short
