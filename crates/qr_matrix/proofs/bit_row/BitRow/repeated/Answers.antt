use Rattle.std.proofs.{Common.{rules, ◌*◌, ◌/◌, ◌%◌, ◌^◌, refl, arith}, lemmas.Nat.or_lt}
use Rattle.qr_matrix.{specs.BitRow.{has, bit_row_number}, proofs.lemmas.bit_row.RepeatLemmas.{repeats, repeated-bit}}
use Rattle.qr_matrix.proofs.bit_row.BitRow.repeated.Goals as goal

pub returns : goal.returns
unfolding has bit_row_number
returns c = search (rules, repeats, repeated-bit)

pub invariant_of-result : goal.invariant_of-result
invariant_of-result c =
    let p = c.from-pattern.result in
    let w = p * 0x1041041041041041 % 2 ^ 64 in
    (refl, omega arith, or_lt 64 (w * 2 ^ 2 % 2 ^ 64) (p / 2 ^ 4) (omega arith) (omega arith), or_lt 64 (w * 2 ^ 4 % 2 ^ 64) (p / 2 ^ 2) (omega arith) (omega arith))
