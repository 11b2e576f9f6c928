use Rattle.{qr_drawing.{proofs.lemmas.svg.{three, two}, specs.Svg.numbered}, std.proofs.{Common.rules, lemmas.Fmt.decimal_digit}}
use Rattle.qr_drawing.proofs.svg.push_column.Goals as goal

pub returns-then-x-lt10-clause-items : goal.returns-then-x-lt10-clause-items
unfolding numbered
returns-then-x-lt10-clause-items c = search (rules, decimal_digit)

pub returns-then-x-lt100-clause-items : goal.returns-then-x-lt100-clause-items
unfolding numbered
returns-then-x-lt100-clause-items c = search (rules, two)

pub returns-else-x-lt100-clause-items : goal.returns-else-x-lt100-clause-items
unfolding numbered
returns-else-x-lt100-clause-items c = search (rules, three)
