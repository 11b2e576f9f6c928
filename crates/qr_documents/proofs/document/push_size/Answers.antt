use Rattle.{std.proofs.Common.append_assoc, qr_documents.specs.Document.size_in_mm}
use Rattle.qr_documents.proofs.document.push_size.Goals as goal

pub returns-clause-items : goal.returns-clause-items
unfolding size_in_mm
returns-clause-items c = rw (c.push_all-3.ensures.items, c.push_millimetres-2.ensures.items, c.push_all-2.ensures.items, c.push_millimetres.ensures.items, c.push_all.ensures.items, c.from-length.ensures, c.from.ensures, c.from-2.ensures) (simp append_assoc)
