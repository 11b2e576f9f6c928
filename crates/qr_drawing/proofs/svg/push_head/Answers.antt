use Rattle.{std.proofs.Common.append_assoc, qr_drawing.specs.{Svg.declaration, Steps.Svg.head}}
use Rattle.qr_drawing.proofs.svg.push_head.Goals as goal

pub returns-clause-items : goal.returns-clause-items
unfolding declaration head
returns-clause-items c = rw (c.push_all-2.ensures.items, c.push_background.ensures.items, c.push_opening.ensures.items, c.push_all.ensures.items) (simp append_assoc)
