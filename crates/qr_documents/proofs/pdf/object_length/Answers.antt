use Rattle.qr_documents.proofs.lemmas.pdf.{object-length}
use Rattle.std.proofs.Common.{arith}
use Rattle.qr_documents.proofs.pdf.object_length.Goals as goal

pub returns-clause-value : goal.returns-clause-value
returns-clause-value g c =
    omega (arith, rw c.from.ensures at c.decimal_length.ensures.value, c.content_length.ensures.value, object-length (g.D.HasPages.pages c.args.document.now) c.args.index)
