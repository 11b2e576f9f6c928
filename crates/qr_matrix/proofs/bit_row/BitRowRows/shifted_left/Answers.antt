use Rattle.qr_matrix.{proofs.lemmas.bit_row.{PlaceLemmas.has_bit-shr, WordLemmas.three-down}, specs.BitRow.{has, bit_row_number}}
use Rattle.std.proofs.{Common.{rules, ◌-◌, ◌*◌, ◌/◌, ◌%◌, ◌^◌, get_or, refl, arith}, lemmas.Nat.or_lt}
use Rattle.qr_matrix.proofs.bit_row.BitRowRows.shifted_left.Goals as goal

pub returns : goal.returns
unfolding has bit_row_number
returns c =
    let a = c.self.inside.0 in
    let k = c.args.steps in
    let e = three-down (get_or a 0 0) (get_or a 1 0) (get_or a 2 0) k (omega arith) (omega arith) (omega arith) in
    search (rules, has_bit-shr)

pub invariant_of-result : goal.invariant_of-result
invariant_of-result c =
    let a = c.self.inside.0 in
    let k = c.args.steps in
    (refl, or_lt 64 (get_or a 0 0 / 2 ^ k) (get_or a 1 0 * 2 ^ (64 - k) % 2 ^ 64) (omega arith) (omega arith), or_lt 64 (get_or a 1 0 / 2 ^ k) (get_or a 2 0 * 2 ^ (64 - k) % 2 ^ 64) (omega arith) (omega arith), omega arith)
