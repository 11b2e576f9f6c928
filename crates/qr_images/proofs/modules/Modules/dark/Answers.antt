use Rattle.{qr_matrix.proofs.Facts.colour-square, std.proofs.Common.rules}
use Rattle.qr_images.proofs.modules.Modules.dark.Goals as goal

pub returns : goal.returns
returns c = search (rules, colour-square)
