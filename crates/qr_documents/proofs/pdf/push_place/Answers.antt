use Rattle.{qr_documents.specs.Pdf.place_line, std.proofs.Common.append_assoc}
use Rattle.qr_documents.proofs.pdf.push_place.Goals as goal

pub returns-clause-items : goal.returns-clause-items
unfolding place_line
returns-clause-items c = rw (c.push_all.ensures.items, c.push_last_ten.ensures.items) (simp append_assoc)
