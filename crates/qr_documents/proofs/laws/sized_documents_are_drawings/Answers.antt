use Rattle.qr_documents.proofs.lemmas.documents.{is-sized-alone}
use Rattle.qr_documents.proofs.laws.sized_documents_are_drawings.Goals as goal

pub returns : goal.returns
returns c micrometres margin squares = is-sized-alone micrometres margin squares
