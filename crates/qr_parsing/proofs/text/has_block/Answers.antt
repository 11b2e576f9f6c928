use Rattle.std.proofs.{Common.rules, lemmas.List.take_min}
use Rattle.qr_parsing.proofs.text.has_block.Goals as goal

pub returns : goal.returns
returns c = search (rules, take_min)
