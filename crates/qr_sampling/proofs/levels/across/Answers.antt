use Rattle.qr_sampling.proofs.lemmas.levels.{across-is}
use Rattle.qr_sampling.specs.Levels.{count_around}
use Rattle.std.proofs.Common.{◌≡◌, ◌-◌, rules, arith}
use Rattle.qr_sampling.proofs.levels.across.Goals as goal

pub returns : goal.returns
returns c f is =
    let first : c.saturating_sub-first.result ≡ c.args.column - 6 = search rules in
    let count : c.loop-i.i ≡ count_around c.args.side c.args.column = omega (arith, c.count_around-i-end.ensures.value) in
    across-is c.args.side f c.args.values.now c.args.column c.args.row c.saturating_sub-first.result c.loop-i.i c.loop-i.sum is c.requires.column_in c.requires.row_in first count c.loop-i.invariant.0
