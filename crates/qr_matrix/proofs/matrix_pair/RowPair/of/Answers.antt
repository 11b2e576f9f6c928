use Rattle.{qr_matrix.specs.{BitRow.{has, bit_row_number}, Steps.lane}, std.proofs.Common.ap}
use Rattle.qr_matrix.proofs.matrix_pair.RowPair.of.Goals as goal

pub returns-clause-first : goal.returns-clause-first
unfolding has bit_row_number lane
returns-clause-first c = λ k. ap (λ w. has w k) c.first.view_is

pub returns-clause-second : goal.returns-clause-second
unfolding has bit_row_number lane
returns-clause-second c = λ k. ap (λ w. has w k) c.second.view_is
