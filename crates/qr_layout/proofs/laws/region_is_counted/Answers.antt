use Rattle.{std.proofs.Common.arith, qr_layout.proofs.lemmas.order.OrderLemmas.{region-size, size-at}}
use Rattle.qr_layout.proofs.laws.region_is_counted.Goals as goal

pub returns-clause-region : goal.returns-clause-region
returns-clause-region c = region-size c.args.version (omega arith) (omega arith)

pub returns-clause-filled : goal.returns-clause-filled
returns-clause-filled c = size-at c.args.version (omega arith) (omega arith)
