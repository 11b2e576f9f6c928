use Rattle.qr_field.proofs.lemmas.polynomial.PolynomialLemmas.{correction-some, correction-one}
use Rattle.qr_field.proofs.laws.correction_is_one.Goals as goal

pub returns-clause-some : goal.returns-clause-some
returns-clause-some c = correction-some

pub returns-clause-only : goal.returns-clause-only
returns-clause-only c = λ d e f n. correction-one d n e f
