use Rattle.{qr_mending.proofs.lemmas.locator.progress-longer, std.proofs.Common.{refl, arith}}
use Rattle.qr_mending.proofs.locator.Progress.prepare.Goals as goal

pub returns-then-self-len-clause-progress : goal.returns-then-self-len-clause-progress
returns-then-self-len-clause-progress c = λ t h.
    progress-longer t c.args.remainder.now c.args.self.now _ h c.push_syndromes.ensures.values
    (omega arith) c.push_syndromes.ensures.most refl refl
