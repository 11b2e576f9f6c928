use Rattle.qr_documents.proofs.lemmas.pdf.{has-its-places}
use Rattle.qr_documents.proofs.laws.objects_are_in_their_places.Goals as goal

pub returns : goal.returns
returns c p = has-its-places p
