use Rattle.qr_bits.proofs.lemmas.laws.ContentLemmas.{parsed-few}
use Rattle.qr_bits.proofs.laws.contents_are_short.Goals as goal

pub returns : goal.returns
returns c = parsed-few
