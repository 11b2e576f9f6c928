use Rattle.qr_bits.proofs.lemmas.laws.DataLemmas.{data-again, data-plain}
use Rattle.qr_bits.proofs.laws.data_are_parsed.Goals as goal

pub returns-clause-whole : goal.returns-clause-whole
returns-clause-whole c = data-again

pub returns-clause-plain : goal.returns-clause-plain
returns-clause-plain c = data-plain
