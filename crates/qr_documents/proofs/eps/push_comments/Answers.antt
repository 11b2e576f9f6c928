use Rattle.{std.proofs.Common.append_assoc, qr_documents.specs.Eps.eps_comments}
use Rattle.qr_documents.proofs.eps.push_comments.Goals as goal

pub returns-clause-items : goal.returns-clause-items
unfolding eps_comments
returns-clause-items c = rw (
  c.push_all-5.ensures.items,
  c.push_points-2.ensures.items,
  c.push_all-4.ensures.items,
  c.push_points.ensures.items,
  c.push_all-3.ensures.items,
  c.push_whole_points-2.ensures.items,
  c.push_all-2.ensures.items,
  c.push_whole_points.ensures.items,
  c.push_all.ensures.items,
) (simp append_assoc)
