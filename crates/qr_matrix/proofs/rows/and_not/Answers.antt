use Rattle.std.proofs.{Common.arith, lemmas.Bool.Decides.nat_tests}
use Rattle.qr_matrix.proofs.rows.and_not.Goals as goal

pub returns : goal.returns
returns g c = λ b k.
    grind (arith, nat_tests, g.met.R.Rows.bitand_law _ _ _ c.bitand.ensures b k, g.met.R.Rows.bitxor_law _ _ _ c.bitxor.ensures b k)
