use Rattle.qr_field.proofs.lemmas.divisor.{held-start}
use Rattle.qr_field.proofs.divisor.Divisor.corrections.Goals as goal

pub loop-index-init : goal.loop-index-init
loop-index-init c = (held-start c.args.self.now, held-start c.args.self.now)
