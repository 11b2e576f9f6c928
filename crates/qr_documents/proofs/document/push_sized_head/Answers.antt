use Rattle.{std.proofs.Common.append_assoc, qr_documents.specs.{Document.opening_start, Steps.Document.sized_head}, qr_drawing.specs.Svg.declaration}
use Rattle.qr_documents.proofs.document.push_sized_head.Goals as goal

pub returns-clause-items : goal.returns-clause-items
unfolding declaration opening_start sized_head
returns-clause-items c = rw (c.push_all-3.ensures.items, c.push_background.ensures.items, c.push_opening_rest.ensures.items, c.push_size.ensures.items, c.push_all-2.ensures.items, c.push_all.ensures.items) (simp append_assoc)
