use Rattle.{std.proofs.Common.append_assoc, qr_documents.specs.Document.opening_rest}
use Rattle.qr_documents.proofs.document.push_opening_rest.Goals as goal

pub returns-clause-items : goal.returns-clause-items
unfolding opening_rest
returns-clause-items c = rw (c.push_all.ensures.items, c.push_numbered-2.ensures.items, c.push_numbered.ensures.items) (simp append_assoc)
