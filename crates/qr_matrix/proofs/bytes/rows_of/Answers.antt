use Rattle.{qr_matrix.proofs.lemmas.runs.ColumnLemmas.has-nothing, std.proofs.Common.{rules, false}}
use Rattle.qr_matrix.proofs.bytes.rows_of.Goals as goal

pub returns-in-None-clause-dark : goal.returns-in-None-clause-dark
returns-in-None-clause-dark c = λ k. let e = c.and_not.ensures false k in search rules

pub returns-in-Some-clause-unknown : goal.returns-in-Some-clause-unknown
returns-in-Some-clause-unknown c = search (rules, has-nothing)
