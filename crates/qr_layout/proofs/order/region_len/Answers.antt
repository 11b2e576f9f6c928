use Rattle.{std.proofs.Common.arith, qr_layout.proofs.lemmas.order.OrderLemmas.order-length}
use Rattle.qr_layout.proofs.order.region_len.Goals as goal

pub returns-clause-length : goal.returns-clause-length
returns-clause-length c = λ ms o. let e = order-length c.args.v ms (omega arith) (omega arith) o in omega arith
