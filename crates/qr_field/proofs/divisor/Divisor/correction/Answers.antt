use Rattle.{qr_field.proofs.lemmas.{divisor.held-start, polynomial.PolynomialLemmas.correction-one}, std.proofs.Common.rules}
use Rattle.qr_field.proofs.divisor.Divisor.correction.Goals as goal

pub finished-requires-clause-held : goal.finished-requires-clause-held
finished-requires-clause-held c = held-start c.args.self.now

pub returns-clause-only : goal.returns-clause-only
returns-clause-only c = search (rules, correction-one)
