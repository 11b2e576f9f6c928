use Rattle.qr_matrix.{proofs.lemmas.bit_row.{PlaceLemmas.has_bit-and, WordLemmas.three-and}, specs.BitRow.{has, bit_row_number}}
use Rattle.std.proofs.Common.{rules, get_or, arith}
use Rattle.qr_matrix.proofs.bit_row.BitRowBitAnd.bitand.Goals as goal

pub returns : goal.returns
unfolding has bit_row_number
returns c =
    let a = c.self.inside.0 in
    let b = c.rhs.inside.0 in
    let e = three-and (get_or a 0 0) (get_or a 1 0) (get_or a 2 0) (get_or b 0 0) (get_or b 1 0) (get_or b 2 0) (omega arith) (omega arith) (omega arith) (omega arith) in
    search (rules, has_bit-and)
