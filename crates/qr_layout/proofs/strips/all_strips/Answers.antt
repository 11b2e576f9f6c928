use Rattle.{qr_layout.proofs.lemmas.strips.{strips-order, strips-inside}, std.proofs.Common.rules}
use Rattle.qr_layout.proofs.strips.all_strips.Goals as goal

pub returns-clause-order : goal.returns-clause-order
returns-clause-order c = search (rules, strips-order)

pub returns-clause-inside : goal.returns-clause-inside
returns-clause-inside c = search (rules, strips-inside)
