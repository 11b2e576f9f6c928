use Rattle.{qr_matrix.{proofs.Facts.filled, specs.Grid.colour}, qr_symbol.specs.Mask.{inverts, inverted}, std.proofs.Common.{◌≡◌, ◌&&◌}}
use Rattle.qr_symbol.proofs.mask.set_masked.Given as goal

abbrev pub invariant-loop-row : goal.invariant-loop-row
invariant-loop-row l = record {
  last : l.row-end ≡ l.fn.matrix.side;
  side : l.matrix.side ≡ l.fn.matrix.side;
  so_far : l.matrix ≡ filled l.fn.matrix.side (λ r c. inverted (colour l.region r c && inverts l.mask r c) (colour l.source r c)) (colour l.fn.matrix) l.row 0;
}
