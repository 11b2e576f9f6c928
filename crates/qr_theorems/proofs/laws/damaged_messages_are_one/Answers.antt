use Rattle.{qr_theorems.proofs.lemmas.laws.MessageLemmas.damaged-one, std.proofs.Common.rules}
use Rattle.qr_theorems.proofs.laws.damaged_messages_are_one.Goals as goal

pub returns : goal.returns
returns c = search (rules, damaged-one)
