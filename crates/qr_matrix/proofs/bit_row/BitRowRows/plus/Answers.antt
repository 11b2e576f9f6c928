use Rattle.std.proofs.Common.{false, arith}
use Rattle.qr_matrix.proofs.bit_row.BitRowRows.plus.Goals as goal

pub overflow_add-result : goal.overflow_add-result
overflow_add-result c = let a = c.requires.first false in let b = c.requires.others false in omega arith
