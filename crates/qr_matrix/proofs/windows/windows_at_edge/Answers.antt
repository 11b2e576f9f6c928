use Rattle.std.proofs.{lemmas.Bool.Decides.nat_tests, Common.{rules, ℕ, ltb, arith}}
use Rattle.qr_matrix.{specs.Steps.is_found, proofs.lemmas.{rows.never, windows.{after-bit, before-bit, found-none}}}
use Rattle.qr_matrix.proofs.windows.windows_at_edge.Goals as goal

pub returns-then-row-from : goal.returns-then-row-from
unfolding is_found
returns-then-row-from g c = λ b k.
    let s = g.S.Squares.size c.args.squares.now in
    let r = c.args.row in
    let kept = before-bit s (λ (i : ℕ). g.S.Squares.dark c.args.squares.now b i k) r (ltb k s) (omega (arith, c.side.ensures.value, c.if-row-from.true)) in
    search rules

pub returns-then-row-lt3 : goal.returns-then-row-lt3
returns-then-row-lt3 g c = search (rules, found-none, never)

pub returns : goal.returns
unfolding is_found
returns g c = λ b k.
    let s = g.S.Squares.size c.args.squares.now in
    let next = after-bit s (λ (i : ℕ). g.S.Squares.dark c.args.squares.now b i k) c.args.row (ltb k s) c.if-row-lt3.false c.requires.fits in
    search (rules, nat_tests)
