use Rattle.std.proofs.Common.{arith}
use Rattle.qr_pictures.proofs.lemmas.picture.{row-shown}
use Rattle.qr_pictures.proofs.picture.Picture.row.Goals as goal

pub returns-clause-pixels : goal.returns-clause-pixels
returns-clause-pixels c = λ x l. search (arith, row-shown)
