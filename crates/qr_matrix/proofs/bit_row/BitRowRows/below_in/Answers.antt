use Rattle.qr_matrix.{proofs.lemmas.bit_row.{PlaceLemmas.has_bit-ones, WordLemmas.{three-low, three-high}}, specs.BitRow.{has, has_bit, bit_row_number}}
use Rattle.std.proofs.{Common.{rules, ◌≡◌, ◌-◌, ◌^◌, ap, ◌∙◌, arith}, lemmas.Nat.{pow-add, pow_pos}}
use Rattle.qr_matrix.proofs.bit_row.BitRowRows.below_in.Goals as goal

pub returns-in-1 : goal.returns-in-1
unfolding has bit_row_number
returns-in-1 c = search (rules, three-low, has_bit-ones)

pub returns-in-2 : goal.returns-in-2
unfolding has bit_row_number
returns-in-2 c =
    let n = c.args.n in
    let x = c.low_bits-in-2.result in
    let e : x ≡ 2 ^ (n - 64) - 1 = c.low_bits-in-2.ensures ∙ ap (λ z. 2 ^ z - 1) (omega arith) in
    λ _ k. ap (λ z. has_bit z k) (search (rules, pow-add, pow_pos)) ∙ has_bit-ones n k

pub returns-in_default : goal.returns-in_default
unfolding has bit_row_number
returns-in_default c =
    let n = c.args.n in
    let x = c.low_bits-in_default.result in
    let e : x ≡ 2 ^ (n - 128) - 1 = c.low_bits-in_default.ensures ∙ ap (λ z. 2 ^ z - 1) (omega arith) in
    λ _ k. ap (λ z. has_bit z k) (three-high n (n - 128) x (omega arith) e) ∙ has_bit-ones n k
