use Rattle.{qr_field.proofs.lemmas.galois.PowerLemmas.{powers-at, logarithms-lt, logarithms-at}, std.proofs.Common.{◌-◌, refl, arith}}
use Rattle.qr_field.proofs.laws.tables_are_powers.Goals as goal

pub returns-clause-powers : goal.returns-clause-powers
returns-clause-powers c = powers-at

pub returns-clause-exponents : goal.returns-clause-exponents
returns-clause-exponents c = λ a p l. logarithms-lt (a - 1) (omega arith)

pub returns-clause-logarithms : goal.returns-clause-logarithms
returns-clause-logarithms c = λ a p l. logarithms-at a (a - 1) p l refl
