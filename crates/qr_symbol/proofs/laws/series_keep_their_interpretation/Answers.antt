use Rattle.{qr_symbol.proofs.lemmas.series.SeriesLemmas.series-interpreted, std.proofs.Common.rules}
use Rattle.qr_symbol.proofs.laws.series_keep_their_interpretation.Goals as goal

pub returns : goal.returns
returns c = search (rules, series-interpreted)
