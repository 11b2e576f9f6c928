use Rattle.qr_symbol.proofs.lemmas.reading.RoundTripLemmas.{reading-one}
use Rattle.qr_symbol.proofs.laws.contents_are_one.Goals as goal

pub returns : goal.returns
returns c = reading-one
