use Rattle.{qr_layout.proofs.lemmas.order.OrderLemmas.{order-length, module-count-small}, std.proofs.Common.rules}
use Rattle.qr_layout.proofs.laws.order_is_full.Goals as goal

pub returns-clause-count : goal.returns-clause-count
returns-clause-count c = search (rules, order-length)

pub returns-clause-most : goal.returns-clause-most
returns-clause-most c = search (rules, module-count-small)
