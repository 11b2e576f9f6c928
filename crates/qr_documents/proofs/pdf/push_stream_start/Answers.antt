use Rattle.{qr_documents.specs.Pdf.stream_start, qr_drawing.specs.Svg.numbered, std.proofs.Common.append_assoc}
use Rattle.qr_documents.proofs.pdf.push_stream_start.Goals as goal

pub returns-clause-items : goal.returns-clause-items
unfolding stream_start numbered
returns-clause-items c = rw (c.push_all-2.ensures.items, c.push_decimal.ensures.items, c.push_all.ensures.items) (simp append_assoc)
