use Rattle.qr_symbol.proofs.lemmas.encoding.{boosted-one}
use Rattle.qr_symbol.proofs.laws.boosted_symbols_are_one.Goals as goal

pub returns : goal.returns
returns c = boosted-one
