use Rattle.qr_matrix.{proofs.lemmas.{bit_row.SumLemmas.sum_below-more, runs.RowLemmas.size-is}, specs.{Difference.difference_count, Sums.places_passing}}
use Rattle.std.proofs.Common.{rules}
use Rattle.qr_matrix.proofs.difference.differences.Goals as goal

pub loop-row-preserved : goal.loop-row-preserved
loop-row-preserved c = search (rules, sum_below-more, size-is)

pub returns : goal.returns
unfolding difference_count places_passing
returns c = search rules
