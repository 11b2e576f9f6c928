use Rattle.{qr_symbol.proofs.lemmas.{fault.exactly, interleaving.MessageLemmas.{data-sizes-whole, sizes-whole}}, std.proofs.Common.rules}
use Rattle.qr_symbol.proofs.interleaving.deinterleave.Goals as goal

pub checked_message-requires-clause-whole : goal.checked_message-requires-clause-whole
checked_message-requires-clause-whole c = search (rules, sizes-whole)

pub returns : goal.returns
returns c = search (rules, data-sizes-whole, exactly)
