use Rattle.qr_matrix.{specs.BitRow.dark_in, proofs.lemmas.{matrix.GridLemmas.{colour-square, square-same}, bit_row.BoolLemmas.and-false}}
use Rattle.std.proofs.{lemmas.{List.{get_or-set_other, get_or-set_same, get_or_read}, Bool.Decides.nat_tests}, Common.rules, Math.ListN.length-set}
use Rattle.qr_matrix.proofs.matrix.Matrix.set.Goals as goal

pub index_mut-requires : goal.index_mut-requires
index_mut-requires c = search rules

pub put-requires : goal.put-requires
put-requires c = search rules

pub invariant_of-self : goal.invariant_of-self
unfolding dark_in
invariant_of-self c = search (rules, length-set, nat_tests, and-false, get_or_read, get_or-set_same, get_or-set_other)

pub returns : goal.returns
unfolding dark_in
returns c = search (rules, square-same, colour-square, get_or_read, nat_tests, get_or-set_same, get_or-set_other)
