use Rattle.{qr_matrix.specs.{BitRow.{has, bit_row_number}, Steps.lane}, std.proofs.Common.{ℕ, ◌+◌, true, false, ap, arith}}
use Rattle.qr_matrix.proofs.matrix_pair.RowPairRows.add_to.Goals as goal

pub overflow_add-result : goal.overflow_add-result
overflow_add-result c = record { fits = let l = c.requires false in omega (arith, c.count.ensures.bound) }

pub overflow_add-result-2 : goal.overflow_add-result-2
overflow_add-result-2 c = record { fits = let l = c.requires true in omega (arith, c.count-2.ensures.bound) }

pub returns-clause-value : goal.returns-clause-value
unfolding lane has bit_row_number
returns-clause-value c = rw (← c.self.view_is) (elim [
  | false ↦ ap (λ (n : ℕ). c.args.counts.0 + n) c.count.ensures.value
  | true ↦ ap (λ (n : ℕ). c.args.counts.1 + n) c.count-2.ensures.value
])
