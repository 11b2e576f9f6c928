use Rattle.{qr_matrix.proofs.lemmas.matrix_pair.NeighbourLemmas.{put-in-one, put-in-two}, std.proofs.Common.{rules, arith}}
use Rattle.qr_matrix.proofs.matrix_pair.RowPair.put_bits.Goals as goal

pub returns-then-at-count-gt64 : goal.returns-then-at-count-gt64
returns-then-at-count-gt64 c = search (arith, put-in-two)

pub returns-else-at-count-gt64 : goal.returns-else-at-count-gt64
returns-else-at-count-gt64 c = search (rules, put-in-one)
