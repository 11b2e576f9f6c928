use Rattle.{qr_matrix.proofs.lemmas.{runs.ColumnLemmas.guarded, windows.ratio-read}, std.proofs.Common.{ltb, sym, ◌∙◌}}
use Rattle.qr_matrix.proofs.windows.ratio_in_column.Goals as goal

pub returns : goal.returns
returns g c = λ b k.
    let m = c.args.squares.now in
    let s = g.S.Squares.size m in
    let d = g.S.Squares.dark m b in
    let first = c.row_in.ensures in
    let l0 = first.colours b k ∙ guarded s k (d c.args.row k) (λ h. sym (first.colours b k) ∙ first.past b k h) in
    let l2 = c.row_in-3.ensures.colours b k in
    let l3 = c.row_in-4.ensures.colours b k in
    let l4 = c.row_in-5.ensures.colours b k in
    let l5 = c.row_in-6.ensures.colours b k in
    let l6 = c.row_in-7.ensures.colours b k in
    let h0 = c.and_not-begun.ensures b k in
    let h1 = g.met.S.Row.Rows.bitand_law _ _ _ c.bitand.ensures b k in
    let h2 = g.met.S.Row.Rows.bitand_law _ _ _ c.bitand-2.ensures b k in
    let h3 = g.met.S.Row.Rows.bitand_law _ _ _ c.bitand-middle.ensures b k in
    let h4 = c.and_not.ensures b k in
    let h5 = g.met.S.Row.Rows.bitand_law _ _ _ c.bitand-3.ensures b k in
    let read = ratio-read (ltb k s) (λ i. d i k) c.args.row in
    cc (c.row_in-2.ensures.colours b k)
