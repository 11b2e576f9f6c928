use Rattle.{qr_layout.specs.Format.{format_word_of, word_remainder}, qr_matrix.specs.{BitRow.has_bit, Grid.{colour, rows_of}}, std.proofs.Common.refl}
use Rattle.qr_mending.proofs.laws.format_costs_compute.Goals as goal

pub returns-clause-costs : goal.returns-clause-costs
unfolding format_word_of word_remainder has_bit colour rows_of
returns-clause-costs c = λ unknown e. rw e (refl, refl, refl, refl, refl)
