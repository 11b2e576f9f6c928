use Rattle.qr_symbol.proofs.lemmas.{joining.{joined-refused, unjoined-one}, reading.{RefusalLemmas.{read-refused, refused-one}, RoundTripLemmas.reading-one}}
use Rattle.std.proofs.Common.{rules}
use Rattle.qr_symbol.proofs.laws.joining_refusals_are_one.Goals as goal

pub returns : goal.returns
returns c = search (rules, joined-refused, unjoined-one, read-refused, refused-one, reading-one)
