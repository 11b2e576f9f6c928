use Rattle.{qr_documents.specs.Pdf.page, std.proofs.Common.append_assoc}
use Rattle.qr_documents.proofs.pdf.push_page.Goals as goal

pub returns-clause-items : goal.returns-clause-items
unfolding page
returns-clause-items c = rw (
  c.push_all-2.ensures.items,
  c.push_numbered.ensures.items,
  c.push_points-2.ensures.items,
  c.push.ensures.items,
  c.push_points.ensures.items,
  c.push_all.ensures.items,
) (simp append_assoc)
