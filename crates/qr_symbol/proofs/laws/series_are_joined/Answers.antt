use Rattle.{qr_symbol.proofs.lemmas.series.SeriesLemmas.series-joined, std.proofs.Common.rules}
use Rattle.qr_symbol.proofs.laws.series_are_joined.Goals as goal

pub returns : goal.returns
returns c = search (rules, series-joined)
