use Rattle.qr_symbol.proofs.lemmas.encoding.{symbol-one}
use Rattle.qr_symbol.proofs.laws.symbols_are_one.Goals as goal

pub returns : goal.returns
returns c = symbol-one
