use Rattle.qr_bits.proofs.Facts.{parsed-few}
use Rattle.qr_theorems.proofs.laws.readings_are_short.Goals as goal

pub returns : goal.returns
returns c = λ g x r. parsed-few r.version r.level r.message x r.sized.least r.sized.most r.holds.many r.parsed
