use Rattle.{qr_matrix.proofs.lemmas.matrix_pair.NeighbourLemmas.{chosen-low, chosen-middle, chosen-high, chosen-pair}, std.proofs.Common.rules}
use Rattle.qr_matrix.proofs.matrix_pair.RowPair.put_in.Goals as goal

pub invariant_of-self : goal.invariant_of-self
invariant_of-self c = search (rules, chosen-pair)

pub returns-in-0 : goal.returns-in-0
returns-in-0 c = search (rules, chosen-low)

pub invariant_of-self-in-1 : goal.invariant_of-self-in-1
invariant_of-self-in-1 c = search (rules, chosen-pair)

pub returns-in-1 : goal.returns-in-1
returns-in-1 c = search (rules, chosen-middle)

pub invariant_of-self-in_default : goal.invariant_of-self-in_default
invariant_of-self-in_default c = search (rules, chosen-pair)

pub returns-in_default : goal.returns-in_default
returns-in_default c = search (rules, chosen-high)
