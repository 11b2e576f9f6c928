use Rattle.{qr_parsing.proofs.lemmas.parsing.none-wide, std.proofs.Common.◌∙◌}
use Rattle.qr_parsing.proofs.parsing.guess_half_blocks.Goals as goal

pub returns-in_default : goal.returns-in_default
returns-in_default c = none-wide c.args.text.now (c.in_default.ensures c.args.text.now c.requires (c.deref.ensures.value ∙ c.in_ok-cells.ensures))
