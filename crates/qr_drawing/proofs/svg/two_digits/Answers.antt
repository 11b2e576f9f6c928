use Rattle.{qr_drawing.proofs.lemmas.svg.digits-at, std.proofs.Common.rules}
use Rattle.qr_drawing.proofs.svg.two_digits.Goals as goal

pub returns : goal.returns
returns c = search (rules, digits-at)
