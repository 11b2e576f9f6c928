use Rattle.{qr_mending.proofs.lemmas.locator.search-locates, std.proofs.Common.arith}
use Rattle.qr_mending.proofs.locator.locator.Goals as goal

pub loop-i-init : goal.loop-i-init
loop-i-init c = record { found = c.new-search.ensures.search c.args.syndromes.now; degree = omega arith }

pub returns-clause-located : goal.returns-clause-located
returns-clause-located c = λ errors few.
    search-locates c.args.t c.loop-i.i c.loop-i.search c.args.syndromes.now errors c.loop-i.invariant.found (omega arith)
    (omega arith) c.loop-i.invariant.degree few
