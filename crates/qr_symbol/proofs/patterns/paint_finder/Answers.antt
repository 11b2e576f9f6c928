use Rattle.{qr_matrix.specs.Grid.Grid, qr_symbol.proofs.lemmas.patterns.{FinderLemmas.area-paint, PaintLemmas.{over-rectangle, over-side, over-sized}}}
use Rattle.std.proofs.{Common.{arith, ap}, lemmas.Bool.Decides.nat_tests}
use Rattle.qr_symbol.proofs.patterns.paint_finder.Goals as goal

pub returns : goal.returns
returns c = λ format.
    let q = c.requires in let at = c.args.centre in
    let e = over-rectangle _ _ _ _ _ (ap (λ (g : Grid). g.side) q.square) c.fill.ensures in
    let d2 = over-sized (over-side (over-sized (over-side e) c.fill_around.ensures)) c.fill_around-2.ensures in
    let d1 = over-sized (over-side d2) c.fill_around-3.ensures in record {
      square = d1.square;
      colours = λ r k l m. area-paint c.args.version r k at.row at.col c.args.area.row c.args.area.col format _ _ _ q.row_least q.row_most q.col_least q.col_most (q.nearest r k) (e.colours r k l m)
          (search (arith, nat_tests));
    }
