use Rattle.{qr_bits.proofs.lemmas.parsing.ItemLemmas.{content-again, content-said}, std.proofs.Common.rules}
use Rattle.qr_bits.proofs.laws.contents_are_parsed.Goals as goal

pub returns : goal.returns
returns c = search (rules, content-said, content-again)
