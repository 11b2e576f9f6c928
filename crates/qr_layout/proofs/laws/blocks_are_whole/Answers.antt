use Rattle.{qr_layout.proofs.lemmas.blocks.blocks-sound, std.proofs.Common.rules}
use Rattle.qr_layout.proofs.laws.blocks_are_whole.Goals as goal

pub returns : goal.returns
returns c = search (rules, blocks-sound)
