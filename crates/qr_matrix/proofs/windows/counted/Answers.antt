use Rattle.{qr_matrix.proofs.lemmas.rows.none-of, std.proofs.Common.arith}
use Rattle.qr_matrix.proofs.windows.counted.Goals as goal

pub returns-then-is_empty : goal.returns-then-is_empty
returns-then-is_empty g c = λ b.
    omega (arith, c.added-sum.ensures b, none-of (g.R.Rows.bit c.added-sum.result.1 b) (c.is_empty.ensures c.if-is_empty.true b))
