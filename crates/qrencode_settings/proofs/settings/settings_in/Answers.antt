use Rattle.std.proofs.{Common.arith, lemmas.Grind.common_steps}
use Rattle.qrencode_settings.proofs.settings.settings_in.Goals as goal

pub returns : goal.returns
returns c = grind (arith, common_steps)
