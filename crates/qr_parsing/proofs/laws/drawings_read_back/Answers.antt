use Rattle.qr_parsing.proofs.lemmas.laws.{series-drawing, symbol-drawing}
use Rattle.qr_parsing.proofs.laws.drawings_read_back.Goals as goal

pub returns-clause-symbol : goal.returns-clause-symbol
returns-clause-symbol c = symbol-drawing

pub returns-clause-series : goal.returns-clause-series
returns-clause-series c = series-drawing
