use Rattle.qr_bits.proofs.lemmas.laws.DataLemmas.{data-found, data-one, length-data}
use Rattle.qr_bits.proofs.laws.data_are_one.Goals as goal

pub returns : goal.returns
returns c = record { there = data-found; one = data-one; full = length-data }
