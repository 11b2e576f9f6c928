use Rattle.qr_matrix.proofs.lemmas.rows.{sum-digits}
use Rattle.qr_matrix.proofs.rows.added.Goals as goal

pub returns : goal.returns
returns g c = λ b.
    let bit = g.R.Rows.bit in
    let xor = g.met.R.Rows.bitxor_law in
    let either = xor _ _ _ c.bitxor-either.ensures b in
    sum-digits (bit c.args.a b) (bit c.args.b b) (bit c.args.c b) (bit c.bitxor.result b) (bit c.bitxor-3.result b)
    (λ k. let e = either k in let h = xor _ _ _ c.bitxor.ensures b k in cc)
    (λ k. let e = either k in let f = xor _ _ _ c.bitxor-2.ensures b k in let h = g.met.R.Rows.bitand_law _ _ _ c.bitand.ensures b k in let i = xor _ _ _ c.bitxor-3.ensures b k in cc)
