use Rattle.std.proofs.{Common.arith, lemmas.Bool.Decides.nat_tests}
use Rattle.qr_layout.proofs.laws.protection_computes.Goals as goal

pub returns-clause-protection : goal.returns-clause-protection
returns-clause-protection c = λ v l h. grind (arith, nat_tests)
