use Rattle.{qr_matrix.{proofs.lemmas.runs.RowLemmas.joins-bit, specs.Grid.is_same}, std.proofs.Common.{◌+◌, not, ap, ◌∙◌, arith}}
use Rattle.qr_matrix.proofs.runs.same_as_right.Goals as goal

pub returns : goal.returns
returns g c = λ b k.
    let m = c.args.squares.now in
    let bit = g.S.Row.Rows.bit in
    joins-bit (g.S.Squares.size m) (g.S.Squares.dark m b c.args.row) k (bit c.and_not.result b k) (bit c.args.before_last b k) (bit c.bitxor.result b k) (bit c.shifted_left.result b k) (omega (arith, c.requires.row_in)) (c.and_not.ensures b k) (c.requires.before_last b k)
    (g.met.S.Row.Rows.bitxor_law _ _ _ c.bitxor.ensures b k ∙ ap (λ z. not (is_same z (bit c.shifted_left.result b k))) (c.row_in-bits.ensures.colours b k)) (c.shifted_left.ensures b k ∙ c.row_in-bits.ensures.colours b (k + 1))
