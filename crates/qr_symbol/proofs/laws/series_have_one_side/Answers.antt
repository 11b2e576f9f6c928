use Rattle.{qr_symbol.proofs.lemmas.series.SizeLemmas.{series-few, series-side}, std.proofs.Common.rules}
use Rattle.qr_symbol.proofs.laws.series_have_one_side.Goals as goal

pub returns : goal.returns
returns c = search (rules, series-few, series-side)
