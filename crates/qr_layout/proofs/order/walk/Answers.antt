use Rattle.{qr_layout.proofs.lemmas.order.{OrderLemmas.order-length, WalkLemmas.walk-order}, std.proofs.Common.rules}
use Rattle.qr_layout.proofs.order.walk.Goals as goal

pub returns-clause-order : goal.returns-clause-order
returns-clause-order c = search (rules, walk-order)

pub returns-clause-count : goal.returns-clause-count
returns-clause-count c = search (rules, order-length, walk-order)
