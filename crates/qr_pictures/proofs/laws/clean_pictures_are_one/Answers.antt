use Rattle.qr_pictures.proofs.lemmas.laws.{one-square}
use Rattle.qr_pictures.proofs.laws.clean_pictures_are_one.Goals as goal

pub returns : goal.returns
returns c = one-square
