use Rattle.{qr_mending.proofs.lemmas.errors.{RemovalLemmas.left-next, WeightLemmas.coefficient-head}, std.proofs.Common.{rules, ◌∷◌}}
use Rattle.qr_mending.proofs.errors.Removal.next_error.Goals as goal

pub returns-then-self-from-ne0-clause-left : goal.returns-then-self-from-ne0-clause-left
returns-then-self-from-ne0-clause-left c = λ first errors left.
    let now = c.prepare.ensures.left (first ∷ errors) left in
    left-next c.args.location first errors c.prepare.new.self now
    (search (rules, coefficient-head))
