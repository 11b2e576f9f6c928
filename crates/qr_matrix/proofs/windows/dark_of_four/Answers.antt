use Rattle.{qr_matrix.proofs.lemmas.windows.dark-read, std.proofs.Common.rules}
use Rattle.qr_matrix.proofs.windows.dark_of_four.Goals as goal

pub returns : goal.returns
returns g c = λ b k.
    let l1 = c.row_in-2.ensures.colours b k in
    let l2 = c.row_in-3.ensures.colours b k in
    let l3 = c.row_in-4.ensures.colours b k in
    let h0 = g.met.S.Row.Rows.bitor_law _ _ _ c.bitor.ensures b k in
    let h1 = g.met.S.Row.Rows.bitor_law _ _ _ c.bitor-2.ensures b k in
    let h2 = g.met.S.Row.Rows.bitor_law _ _ _ c.bitor-3.ensures b k in
    search (rules, dark-read)
