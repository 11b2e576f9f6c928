use Rattle.std.proofs.{Common.{rules, get_or, arith}, lemmas.Nat.xor_lt}
use Rattle.qr_matrix.{specs.BitRow.{has, bit_row_number}, proofs.lemmas.bit_row.{WordLemmas.three-xor, PlaceLemmas.has_bit-xor}}
use Rattle.qr_matrix.proofs.bit_row.BitRowBitXor.bitxor.Goals as goal

pub returns : goal.returns
unfolding has bit_row_number
returns c =
    let a = c.self.inside.0 in
    let b = c.rhs.inside.0 in
    let e = three-xor (get_or a 0 0) (get_or a 1 0) (get_or a 2 0) (get_or b 0 0) (get_or b 1 0) (get_or b 2 0) (omega arith) (omega arith) (omega arith) (omega arith) in
    search (rules, has_bit-xor)

pub invariant_of-result : goal.invariant_of-result
invariant_of-result c = search (rules, xor_lt)
