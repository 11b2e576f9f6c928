use Rattle.std.proofs.Common.{rules}
use Rattle.qr_symbol.proofs.Facts.{needs-parts, none-shorter, parts-fit, series-shortest}
use Rattle.qr_theorems.proofs.laws.series_are_shortest.Goals as goal

pub returns : goal.returns
returns c = search (rules, parts-fit, needs-parts, series-shortest, none-shorter)
