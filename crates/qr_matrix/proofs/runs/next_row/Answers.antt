use Rattle.{qr_matrix.proofs.lemmas.runs.AboveLemmas.{above-next, five-next, near-next}, std.proofs.Common.{ap, ◌||◌, ◌∙◌}}
use Rattle.qr_matrix.proofs.runs.next_row.Goals as goal

pub returns-clause-upright : goal.returns-clause-upright
returns-clause-upright g c = λ b k n join h hx.
    let bit = λ (r : g.row.R.Denot). g.R.Rows.bit r b k in
    let a = c.args.above in
    let fives = five-next join n (bit a.same) (bit a.threes) (bit a.earlier_threes) (bit a.fives) (bit a.earlier_fives) (bit c.args.same) h hx (bit c.bitand-threes.result) (bit c.bitand-fives.result) (g.met.R.Rows.bitand_law _ _ _ c.bitand-threes.ensures b k) (g.met.R.Rows.bitand_law _ _ _ c.bitand-fives.ensures b k) in
    near-next join n (bit a.same) (bit a.threes) (bit a.earlier_threes) (bit a.fives) (bit a.earlier_fives) (bit c.args.same) h hx (bit c.bitor-upright.result) (bit c.bitand-fives.result) (g.met.R.Rows.bitor_law _ _ _ c.bitor-upright.ensures b k ∙ ap (λ z. z || bit a.earlier_fives) (g.met.R.Rows.bitor_law _ _ _ c.bitor.ensures b k)) fives

pub returns-clause-above : goal.returns-clause-above
returns-clause-above g c = λ b k n join h hx.
    let bit = λ (r : g.row.R.Denot). g.R.Rows.bit r b k in
    let a = c.args.above in
    above-next join n (bit a.same) (bit a.threes) (bit a.earlier_threes) (bit a.fives) (bit a.earlier_fives) (bit c.args.same) h hx (bit c.bitand-threes.result) (bit c.bitand-fives.result) (g.met.R.Rows.bitand_law _ _ _ c.bitand-threes.ensures b k) (g.met.R.Rows.bitand_law _ _ _ c.bitand-fives.ensures b k)
