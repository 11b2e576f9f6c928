use Rattle.{qr_drawing.proofs.lemmas.svg.short-at, std.proofs.Common.rules}
use Rattle.qr_drawing.proofs.svg.push_width.Goals as goal

pub returns-then-modules-lt10-clause-items : goal.returns-then-modules-lt10-clause-items
returns-then-modules-lt10-clause-items c = search (rules, short-at)
