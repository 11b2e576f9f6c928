use Rattle.std.proofs.Common.{inl, inr}
use Rattle.qr_pictures.proofs.lemmas.drawn.{module-decided}
use Rattle.qr_pictures.proofs.drawn.is_module.Goals as goal
use Rattle.qr_pictures.proofs.drawn.is_module.Goals.{else-grey-frame-via-then-grey-frame+else-grey-frame-2, else-grey-frame-via-else-grey-frame}

pub returns : goal.returns
returns c =
    module-decided c.args.frame.now c.args.line.now c.args.at c.are_all.result c.requires.scaled
    (elim c.else-grey-frame.branch [ else-grey-frame-via-then-grey-frame+else-grey-frame-2 w ↦ inr w.if-grey-frame-2.false | else-grey-frame-via-else-grey-frame w ↦ inl w.if-grey-frame.false ])
    c.are_all.ensures
