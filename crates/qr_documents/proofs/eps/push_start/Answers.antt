use Rattle.{std.proofs.Common.append_assoc, qr_documents.specs.Eps.eps_start}
use Rattle.qr_documents.proofs.eps.push_start.Goals as goal

pub returns-clause-items : goal.returns-clause-items
unfolding eps_start
returns-clause-items c = rw (c.push_all-2.ensures.items, c.push_numbered-2.ensures.items, c.push_numbered.ensures.items, c.push_points.ensures.items, c.push_all.ensures.items, c.from.ensures) (simp append_assoc)
