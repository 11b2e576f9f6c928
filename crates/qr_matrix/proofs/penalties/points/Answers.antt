use Rattle.{qr_matrix.specs.Penalty.{dark_cost, penalty_of}, std.proofs.Common.rules}
use Rattle.qr_matrix.proofs.penalties.points.Goals as goal

pub returns : goal.returns
unfolding penalty_of dark_cost
returns c = search rules
