use Rattle.qr_mending.proofs.lemmas.block.{erasures-one}
use Rattle.qr_mending.proofs.laws.blocks_mended_with_erasures_are_one.Goals as goal

pub returns : goal.returns
returns c = erasures-one
