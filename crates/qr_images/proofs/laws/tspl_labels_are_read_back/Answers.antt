use Rattle.qr_images.proofs.lemmas.laws.TsplLemmas.{tspl-labels-read}
use Rattle.qr_images.proofs.laws.tspl_labels_are_read_back.Goals as goal

pub returns : goal.returns
returns c = tspl-labels-read
