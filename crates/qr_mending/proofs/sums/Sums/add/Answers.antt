use Rattle.std.proofs.{Common.arith, lemmas.Grind.common_steps}
use Rattle.qr_mending.proofs.lemmas.sums.{digits-added}
use Rattle.qr_mending.proofs.sums.Sums.add.Goals as goal

pub returns : goal.returns
returns c = λ k l. grind (arith, common_steps, digits-added)
