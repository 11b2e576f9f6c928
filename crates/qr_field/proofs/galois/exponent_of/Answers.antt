use Rattle.{qr_field.proofs.lemmas.galois.PowerLemmas.{logarithms-lt, logarithms-at}, std.proofs.Common.{◌-◌, arith}}
use Rattle.qr_field.proofs.galois.exponent_of.Goals as goal

pub returns-clause-exponent : goal.returns-clause-exponent
returns-clause-exponent c = logarithms-lt (c.from.result - 1) (omega arith)

pub returns-clause-element : goal.returns-clause-element
returns-clause-element c = logarithms-at c.args.element (c.from.result - 1) (omega arith) (omega arith) (omega arith)
