use Rattle.qr_symbol.proofs.lemmas.reading.FormatLemmas.{format-one}
use Rattle.qr_symbol.proofs.laws.format_is_one.Goals as goal

pub returns : goal.returns
returns c = format-one
