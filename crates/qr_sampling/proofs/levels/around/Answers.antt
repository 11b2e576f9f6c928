use Rattle.qr_sampling.proofs.lemmas.levels.{around-is}
use Rattle.qr_sampling.specs.Levels.{count_around}
use Rattle.std.proofs.Common.{◌≡◌, ◌-◌, rules, arith}
use Rattle.qr_sampling.proofs.levels.around.Goals as goal

pub returns-clause-value : goal.returns-clause-value
returns-clause-value c f is =
    let first : c.saturating_sub-first.result ≡ c.args.row - 6 = search rules in
    let count : c.loop-j.j ≡ count_around c.args.side c.args.row = omega (arith, c.count_around-j-end.ensures.value) in
    around-is c.args.side f c.args.sums.now c.args.column c.args.row c.saturating_sub-first.result c.loop-j.j c.loop-j.sum is c.requires.column_in c.requires.row_in first count c.loop-j.invariant.0
