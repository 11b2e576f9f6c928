use Rattle.qr_theorems.proofs.lemmas.laws.DamageLemmas.{symbol-counted}
use Rattle.qr_theorems.proofs.laws.damaged_symbols_are_mended.Goals as goal

pub returns : goal.returns
returns c = λ v l rule how x header mask g changed least most may s side f d.
    let made = c.mend_symbol_with_unknown in
    symbol-counted c.args.unknown.now v l rule how x header mask g c.args.damaged.now changed least most may s side f d made.result
    made.ensures.mended made.ensures.format made.ensures.least made.ensures.modules
