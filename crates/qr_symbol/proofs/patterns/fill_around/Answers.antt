use Rattle.{qr_symbol.proofs.lemmas.patterns.PaintLemmas.{over-rectangle, over-same, square-rings}, std.proofs.Common.refl}
use Rattle.qr_symbol.proofs.patterns.fill_around.Goals as goal

pub returns : goal.returns
returns c = over-same (over-rectangle _ _ _ _ _ refl c.fill.ensures) (λ r k _ _. square-rings c.args.centre.row c.args.centre.col c.args.distance r k)
