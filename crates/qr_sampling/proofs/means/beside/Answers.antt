use Rattle.std.proofs.Common.{◌≡◌, ◌+◌, ◌-◌, ◌∙◌, min, ap, rules, arith}
use Rattle.qr_sampling.proofs.means.beside.Goals as goal

pub returns-clause-value : goal.returns-clause-value
returns-clause-value c f is =
    let row = c.args.row in
    let column = c.args.column in
    let last = c.args.side - 1 in
    let r1 : c.saturating_sub.result ≡ row - 1 = search rules in
    let r2 : c.min.result ≡ min (row + 1) last = search rules in
    let r3 : c.saturating_sub-2.result ≡ column - 1 = search rules in
    let r4 : c.min-2.result ≡ min (column + 1) last = search rules in
    let a : c.entry-above.result ≡ f column (row - 1) = c.entry-above.ensures f is ∙ ap (f column) r1 in
    let b : c.entry-below.result ≡ f column (min (row + 1) last) = c.entry-below.ensures f is ∙ ap (f column) r2 in
    let d : c.entry-left.result ≡ f (column - 1) row = c.entry-left.ensures f is ∙ ap (λ z. f z row) r3 in
    let e : c.entry-right.result ≡ f (min (column + 1) last) row = c.entry-right.ensures f is ∙ ap (λ z. f z row) r4 in
    omega arith
