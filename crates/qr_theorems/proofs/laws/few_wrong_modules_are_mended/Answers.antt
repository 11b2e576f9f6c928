use Rattle.qr_symbol.{specs.Reading.interpreted_content, proofs.Facts.{symbol-format, symbol-holds}}
use Rattle.{qr_matrix.specs.Grid.light}
use Rattle.qr_theorems.proofs.lemmas.laws.{DamageLemmas.{symbol-mended, symbol-mended-as}, FewModuleLemmas.{few-format, few-damaged}}
use Rattle.qr_theorems.proofs.laws.few_wrong_modules_are_mended.Goals as goal

pub returns : goal.returns
returns c = λ v l rule how x header mask g least most may s side few.
    let damaged = c.args.damaged.now in
    let u = light damaged.side in
    let f = few-format v l mask s.codewords damaged g least most s.drawn (symbol-format v l rule how x header mask g least most s) few in
    let d = few-damaged v l mask damaged g s.message least most (symbol-holds v l rule how x header mask g least most s) few in
    symbol-mended-as u damaged v l mask (interpreted_content how header s.segments x) d.0 c.mend_symbol.result
    (symbol-mended u v l rule how x header mask g damaged d.0 least most may s side f d.1) c.mend_symbol.ensures.mended
