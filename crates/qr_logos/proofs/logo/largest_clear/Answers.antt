use Rattle.{qr_logos.proofs.lemmas.logo.LargestLemmas.clear-most, std.proofs.Common.arith}
use Rattle.qr_logos.proofs.logo.largest_clear.Goals as goal

pub returns-clause-largest : goal.returns-clause-largest
returns-clause-largest c = λ side clear. omega (arith, clear-most c.args.version side (omega arith) clear, c.side.ensures.value)
