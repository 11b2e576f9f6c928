use Rattle.std.proofs.{Common.{arith}, lemmas.List.{get_or-drop, get_or-take}}
use Rattle.qr_matrix.proofs.Facts.{colour-square}
use Rattle.qr_images.proofs.modules.Modules.row.Goals as goal

pub returns-clause-modules : goal.returns-clause-modules
returns-clause-modules c = λ x l. search (arith, colour-square, get_or-drop, get_or-take)
