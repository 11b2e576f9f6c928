use Rattle.std.proofs.Common.{rules, ◌≡◌, ℕ, ◌+◌, ◌<◌, bit_and, get_or, sym, ap, ◌∙◌, arith}
use Rattle.qr_matrix.{specs.{BitRow.has_bit, Bytes.byte_of}, proofs.lemmas.bytes.{gathered, gathered-bits, joined, plain-bytes}}
use Rattle.qr_matrix.proofs.bytes.eight_bits.Goals as goal

pub returns-clause-bits : goal.returns-clause-bits
returns-clause-bits c = λ k l.
    let xs = c.args.bytes.now in
    let at = c.args.at in
    let f = λ (j : ℕ). get_or xs (at + j) 0 in
    let first : f 0 ≡ get_or xs at 0 = ap (λ (z : ℕ). get_or xs z 0) (omega arith) in
    let e : c.from_le_bytes-eight.result ≡ joined f = omega (arith, first, c.from_le_bytes-eight.ensures) in
    let small : (j : ℕ) → f j < 256 = search rules in
    let none : bit_and (joined f) 0xFEFEFEFEFEFEFEFE ≡ 0 = search rules in
    gathered-bits f (plain-bytes f small none) k l ∙ ap (λ n. byte_of (has_bit (gathered n) k)) (sym e)
