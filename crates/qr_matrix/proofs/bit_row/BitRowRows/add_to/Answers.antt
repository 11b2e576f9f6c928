use Rattle.std.proofs.Common.{false, arith}
use Rattle.qr_matrix.proofs.bit_row.BitRowRows.add_to.Goals as goal

pub overflow_add-result : goal.overflow_add-result
overflow_add-result c = record { fits = let l = c.requires false in omega (arith, c.count.ensures.bound) }
