use Rattle.qr_images.proofs.lemmas.laws.ZplLemmas.{zpl-labels-read}
use Rattle.qr_images.proofs.laws.zpl_labels_are_read_back.Goals as goal

pub returns : goal.returns
returns c = zpl-labels-read
