use Rattle.qr_symbol.{specs.Reading.IsReading, proofs.lemmas.{joining.joining-one, reading.RoundTripLemmas.reading-one}}
use Rattle.qr_symbol.proofs.laws.joinings_are_one.Goals as goal

pub returns : goal.returns
returns c = joining-one IsReading reading-one
