use Rattle.{qr_layout.proofs.lemmas.blocks.blocks-short, std.proofs.Common.rules}
use Rattle.qr_layout.proofs.laws.blocks_are_short.Goals as goal

pub returns-clause-most : goal.returns-clause-most
returns-clause-most c = search (rules, blocks-short)
