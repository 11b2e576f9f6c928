use Rattle.qr_symbol.proofs.lemmas.series.SeriesLemmas.{series-one}
use Rattle.qr_symbol.proofs.laws.series_are_one.Goals as goal

pub returns : goal.returns
returns c = series-one
