use Rattle.std.proofs.Common.{true, false, ◌∙◌}
use Rattle.qr_matrix.proofs.matrix_pair.RowPairRows.below_in.Goals as goal

pub returns : goal.returns
returns c = elim [
  | false ↦ λ k. c.of.ensures.first k ∙ c.below_in-row.ensures false k
  | true ↦ λ k. c.of.ensures.second k ∙ c.below_in-row.ensures false k
]
