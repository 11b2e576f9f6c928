use Rattle.qr_layout.proofs.lemmas.order.OrderLemmas.{index-at}
use Rattle.qr_layout.proofs.laws.index_counts.Goals as goal

pub returns : goal.returns
returns c = index-at c.args.version
