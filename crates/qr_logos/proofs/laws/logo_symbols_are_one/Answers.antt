use Rattle.qr_logos.{proofs.lemmas.encoding.logo-symbol-one}
use Rattle.qr_logos.proofs.laws.logo_symbols_are_one.Goals as goal

pub returns : goal.returns
returns c = logo-symbol-one
