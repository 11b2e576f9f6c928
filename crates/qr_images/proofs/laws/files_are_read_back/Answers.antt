use Rattle.qr_images.proofs.lemmas.laws.LawLemmas.{files-read}
use Rattle.qr_images.proofs.laws.files_are_read_back.Goals as goal

pub returns : goal.returns
returns c = files-read
