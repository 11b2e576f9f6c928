use Rattle.{std.proofs.Common.append_assoc, qr_documents.specs.Steps.Document.eps_head}
use Rattle.qr_documents.proofs.eps.push_head.Goals as goal

pub returns-clause-items : goal.returns-clause-items
unfolding eps_head
returns-clause-items c = rw (c.push_start.ensures.items, c.push_comments.ensures.items, c.from-length.ensures, c.from.ensures, c.from-2.ensures) (simp append_assoc)
