use Rattle.std.proofs.{lemmas.Bool.Decides.nat_tests, Common.rules}
use Rattle.qr_layout.proofs.strips.StripsIterator.next.Goals as goal

pub returns-clause-steps : goal.returns-clause-steps
returns-clause-steps c = search (rules, nat_tests)
