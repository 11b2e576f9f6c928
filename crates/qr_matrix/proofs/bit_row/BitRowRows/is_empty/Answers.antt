use Rattle.std.proofs.{Common.{◌+◌, ◌*◌, ◌^◌, bit_or, get_or, ◌∙◌, arith}, lemmas.Bool.Decides.nat_tests}
use Rattle.qr_matrix.{specs.BitRow.{has, has_bit, bit_row_number}, proofs.lemmas.{runs.ColumnLemmas.has-nothing, matrix_pair.PairLemmas.or-zero}}
use Rattle.qr_matrix.proofs.bit_row.BitRowRows.is_empty.Goals as goal

pub returns : goal.returns
unfolding has bit_row_number
returns c =
    let a = c.self.inside.0 in
    rw (← c.self.view_is) (λ e _ k.
    let p = or-zero (bit_or (get_or a 0 0) (get_or a 1 0)) (get_or a 2 0) (grind (arith, nat_tests)) in
    let q = or-zero (get_or a 0 0) (get_or a 1 0) p.0 in
    (λ i. has_bit ((p.1 i * 2 ^ 64 + q.1 i) * 2 ^ 64 + q.0 i) k) ∙ has-nothing k)
