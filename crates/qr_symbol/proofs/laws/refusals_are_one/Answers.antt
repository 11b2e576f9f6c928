use Rattle.qr_symbol.proofs.lemmas.reading.RefusalLemmas.{read-refused, refused-one}
use Rattle.qr_symbol.proofs.laws.refusals_are_one.Goals as goal

pub returns : goal.returns
returns c = record { read = read-refused; one = refused-one }
