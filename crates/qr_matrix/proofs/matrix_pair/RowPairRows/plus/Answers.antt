use Rattle.std.proofs.Common.{false, true, arith}
use Rattle.qr_matrix.proofs.matrix_pair.RowPairRows.plus.Goals as goal

pub overflow_add-result : goal.overflow_add-result
overflow_add-result c = let a = c.requires.first false in let b = c.requires.others false in omega arith

pub overflow_add-result-2 : goal.overflow_add-result-2
overflow_add-result-2 c = let a = c.requires.first true in let b = c.requires.others true in omega arith
