use Rattle.qr_images.proofs.lemmas.laws.EscPosLemmas.{receipts-read}
use Rattle.qr_images.proofs.laws.receipts_are_read_back.Goals as goal

pub returns : goal.returns
returns c = receipts-read
