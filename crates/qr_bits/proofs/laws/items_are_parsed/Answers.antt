use Rattle.{qr_bits.proofs.lemmas.parsing.ItemLemmas.{items-again, items-said}, std.proofs.Common.rules}
use Rattle.qr_bits.proofs.laws.items_are_parsed.Goals as goal

pub returns : goal.returns
returns c = search (rules, items-said, items-again)
