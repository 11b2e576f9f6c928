use Rattle.{qr_documents.specs.Pdf.trailer, std.proofs.Common.append_assoc}
use Rattle.qr_documents.proofs.pdf.push_trailer.Goals as goal

pub returns-clause-items : goal.returns-clause-items
unfolding trailer
returns-clause-items c = rw (c.push_all-2.ensures.items, c.push_decimal.ensures.items, c.push_all.ensures.items, c.push_numbered.ensures.items) (simp append_assoc)
