use Rattle.{qr_documents.specs.Pdf.table_of, std.proofs.Common.{append_assoc, append-nil}}
use Rattle.qr_documents.proofs.pdf.push_table_start.Goals as goal

pub returns-clause-items : goal.returns-clause-items
unfolding table_of
returns-clause-items c = rw (c.push_all.ensures.items, c.push_numbered.ensures.items) (simp (append_assoc, append-nil))
