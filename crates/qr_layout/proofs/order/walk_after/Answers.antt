use Rattle.{qr_layout.proofs.lemmas.order.{PathLemmas.next-IsCursor, WalkLemmas.{after, after-strips, after-cursor}}, std.proofs.Common.rules}
use Rattle.qr_layout.proofs.order.walk_after.Goals as goal

pub next-next-requires-clause-strips_left : goal.next-next-requires-clause-strips_left
next-next-requires-clause-strips_left c = search (rules, after-strips)

pub next-next-requires-clause-cursor : goal.next-next-requires-clause-cursor
next-next-requires-clause-cursor c = search (rules, after-cursor)

pub invariant_of-result : goal.invariant_of-result
invariant_of-result c = search (rules, after-cursor, after-strips, next-IsCursor)

pub returns-clause-rest : goal.returns-clause-rest
returns-clause-rest c = search (rules, after)
