use Rattle.qr_mending.proofs.lemmas.block.{mended-one}
use Rattle.qr_mending.proofs.laws.mended_blocks_are_one.Goals as goal

pub returns : goal.returns
returns c = mended-one
