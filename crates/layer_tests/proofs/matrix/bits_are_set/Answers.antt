use Rattle.{std.proofs.Common.{arith}, qr_matrix.proofs.Facts.unset-above}
use Rattle.layer_tests.proofs.matrix.bits_are_set.Goals as goal

pub set_bits-requires-clause-fits : goal.set_bits-requires-clause-fits
set_bits-requires-clause-fits g c = λ k l. unset-above 14 4 k (omega arith) (omega arith)

pub set_bits-requires-2-clause-fits : goal.set_bits-requires-2-clause-fits
set_bits-requires-2-clause-fits g c = λ k l. unset-above 11 4 k (omega arith) (omega arith)
