use Rattle.std.proofs.{Common.{rules, get_or, ◌∙◌, arith}, lemmas.Nat.ones-le}
use Rattle.qr_matrix.{specs.{BitRow.{has, bit_row_number}, Steps.set_count}, proofs.lemmas.bit_row.{WordLemmas.three-ones, PlaceLemmas.ones-count}}
use Rattle.qr_matrix.proofs.bit_row.BitRow.count.Goals as goal

pub returns-clause-value : goal.returns-clause-value
unfolding set_count has bit_row_number
returns-clause-value c =
    let a = c.self.inside.0 in
    rw (← c.self.view_is) (three-ones (get_or a 0 0) (get_or a 1 0) (get_or a 2 0) (omega arith) (omega arith) ∙ ones-count 192 (bit_row_number a) (search rules))

pub returns-clause-bound : goal.returns-clause-bound
returns-clause-bound c = search (rules, ones-le, get_or)
