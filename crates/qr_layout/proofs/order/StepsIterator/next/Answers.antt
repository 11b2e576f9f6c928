use Rattle.qr_layout.{proofs.lemmas.order.{PathLemmas.{next-IsCursor, next-left}, WalkLemmas.{places-nil, to_come-next}}, specs.Steps.Order.{left_of, to_come}}
use Rattle.std.proofs.Common.{arith, rules}
use Rattle.qr_layout.proofs.order.StepsIterator.next.Goals as goal

pub invariant_of-self-then-is_in_region : goal.invariant_of-self-then-is_in_region
invariant_of-self-then-is_in_region c = search (rules, next-IsCursor)

pub returns-then-is_in_region-clause-steps : goal.returns-then-is_in_region-clause-steps
returns-then-is_in_region-clause-steps c = search (rules, to_come-next)

pub returns-then-is_in_region-clause-goes : goal.returns-then-is_in_region-clause-goes
returns-then-is_in_region-clause-goes c = search (rules, to_come-next)

pub loop-self-smaller : goal.loop-self-smaller
loop-self-smaller c = search (rules, next-left)

pub loop-self-preserved : goal.loop-self-preserved
loop-self-preserved c = search (rules, to_come-next, next-IsCursor)

pub returns-clause-steps : goal.returns-clause-steps
unfolding to_come left_of
returns-clause-steps c = search (arith, places-nil)
