use Rattle.qr_images.proofs.lemmas.checksums.AdlerLemmas.{summed-first}
use Rattle.qr_images.proofs.checksums.first_byte.Goals as goal

pub returns : goal.returns
returns c = summed-first
