use Rattle.std.proofs.Common.{rules, ◌≡◌, ◌+◌, ◌-◌, arith}
use Rattle.qr_symbol.proofs.spans.Spans.rows_set.Goals as goal

pub returns-then-self-clause-set : goal.returns-then-self-clause-set
returns-then-self-clause-set c = λ j l m.
    let s = c.args.self.now.side in let k = c.args.self.now.passed in
    let e : s - 1 - k - (j - k) ≡ s - 1 - j = omega arith in
    search rules

pub returns-else-self-clause-set : goal.returns-else-self-clause-set
returns-else-self-clause-set c = λ j l m.
    let k = c.args.self.now.passed in
    let e : k + (j - k) ≡ j = omega arith in
    search rules
