use Rattle.{qr_layout.proofs.lemmas.blocks.damage-stood, std.proofs.Common.rules}
use Rattle.qr_layout.proofs.laws.blocks_stand_damage.Goals as goal

pub returns : goal.returns
returns c = search (rules, damage-stood)
