use Rattle.{qr_matrix.specs.Steps.is_change, std.proofs.Common.{rules, false}}
use Rattle.qr_matrix.proofs.matrix.Matrix.changes.Goals as goal

pub returns-clause-changes : goal.returns-clause-changes
unfolding is_change
returns-clause-changes c = λ k l. let e = c.shifted_right.ensures false k l in search rules
