use Rattle.qr_images.proofs.lemmas.laws.LawLemmas.{files-show-one}
use Rattle.qr_images.proofs.laws.files_show_one_picture.Goals as goal

pub returns : goal.returns
returns c = files-show-one
