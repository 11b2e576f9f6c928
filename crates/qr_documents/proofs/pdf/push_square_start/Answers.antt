use Rattle.{qr_documents.specs.Pdf.square_start, std.proofs.Common.append_assoc}
use Rattle.qr_documents.proofs.pdf.push_square_start.Goals as goal

pub returns-clause-items : goal.returns-clause-items
unfolding square_start
returns-clause-items c = rw (
  c.push_dark_colour.ensures.items,
  c.push_light_square.ensures.items,
  c.push_all-3.ensures.items,
  c.push_all-2.ensures.items,
  c.push.ensures.items,
  c.push_points-2.ensures.items,
  c.push_all.ensures.items,
  c.push_points.ensures.items,
  c.from-2.ensures,
  c.from.ensures,
) (simp append_assoc)
