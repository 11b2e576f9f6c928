use Rattle.qr_parsing.proofs.lemmas.parsing.{none-wide}
use Rattle.qr_parsing.proofs.parsing.guess_ascii.Goals as goal

pub returns-in_default : goal.returns-in_default
returns-in_default c = none-wide c.args.text.now c.in_default.ensures
