use Rattle.qr_parsing.proofs.lemmas.laws.{one-drawing}
use Rattle.qr_parsing.proofs.laws.drawings_are_one.Goals as goal

pub returns : goal.returns
returns c = one-drawing
