use Rattle.qr_images.proofs.lemmas.laws.BitmapLemmas.{bitmaps-read}
use Rattle.qr_images.proofs.laws.bitmaps_are_read_back.Goals as goal

pub returns : goal.returns
returns c = bitmaps-read
