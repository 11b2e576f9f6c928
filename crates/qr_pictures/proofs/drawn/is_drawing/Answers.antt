use Rattle.std.proofs.Common.{◌≡◌, true, arith, rules, refl, below_more}
use Rattle.qr_pictures.proofs.drawn.is_drawing.Goals as goal

pub loop-y-preserved : goal.loop-y-preserved
loop-y-preserved c = let e : c.is_row_drawn.result ≡ true = search rules in below_more _ _ c.loop-y.invariant (c.is_row_drawn.ensures.0 e)

pub returns : goal.returns
returns c = (λ e. record { frame = c.requires; pixels = λ y x l m. (c.loop-y.invariant y (omega arith)).pixels x m }, λ h. refl)
