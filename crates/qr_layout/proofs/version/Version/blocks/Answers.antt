use Rattle.{qr_layout.proofs.lemmas.blocks.{laws-of, quotient-fits}, std.proofs.Common.{rules, arith}}
use Rattle.qr_layout.proofs.version.Version.blocks.Goals as goal

pub nonzero_rem-long : goal.nonzero_rem-long
nonzero_rem-long c = omega (arith, ((laws-of c.args.level c.args.self (omega arith) (omega arith)).count))

pub nonzero_div-result : goal.nonzero_div-result
nonzero_div-result c = omega (arith, ((laws-of c.args.level c.args.self (omega arith) (omega arith)).count))

pub overflow_sub-result : goal.overflow_sub-result
overflow_sub-result c = omega (arith, ((laws-of c.args.level c.args.self (omega arith) (omega arith)).count))

pub overflow_cast-result-2 : goal.overflow_cast-result-2
overflow_cast-result-2 c = search (rules, quotient-fits)

pub overflow_cast-result-3 : goal.overflow_cast-result-3
overflow_cast-result-3 c =
    let f = laws-of c.args.level c.args.self (omega arith) (omega arith) in
    omega (arith, f.most_count)
