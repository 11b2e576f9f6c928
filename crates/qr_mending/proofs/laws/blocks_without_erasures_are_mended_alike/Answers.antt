use Rattle.{qr_mending.proofs.lemmas.{block.{read-mended, mended-read}, erasures.read-unmarked}, std.proofs.Common.rules}
use Rattle.qr_mending.proofs.laws.blocks_without_erasures_are_mended_alike.Goals as goal

pub returns : goal.returns
returns c = search (rules, read-unmarked, mended-read, read-mended)
