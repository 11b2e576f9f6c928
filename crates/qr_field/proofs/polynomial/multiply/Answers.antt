use Rattle.std.proofs.{lemmas.{List.{append-nil, drop_all, length-set, take_all}, Grind.common_steps}, Common.rules}
use Rattle.qr_field.proofs.polynomial.multiply.Goals as goal

pub loop-coefficient-init : goal.loop-coefficient-init
loop-coefficient-init c = search rules

pub loop-coefficient-preserved : goal.loop-coefficient-preserved
loop-coefficient-preserved c = search (rules, length-set, common_steps)

pub returns : goal.returns
returns c = search (rules, take_all, drop_all, append-nil)
