use Rattle.{qr_drawing.specs.{Raster.texts_below, Steps.Text.{bits_text, cell_at}}, std.proofs.Common.{◌≡◌, ◌≤◌, ◌+◌, ◌-◌, ◌%◌, ◌++◌}}
use Rattle.qr_drawing.proofs.text.put_line.Given as goal

abbrev pub invariant-eights : goal.invariant-eights
invariant-eights g l = record {
  within : l.col ≤ l.side;
  whole : l.col % 8 ≡ 0;
  items : l.text ≡ l.initial.text ++ texts_below l.col (λ i. cell_at l.style l.margin (g.M.Eights.seen l.square) l.row (l.margin + i));
}

abbrev pub decreases-eights : goal.decreases-eights
decreases-eights g l = l.side - l.col

abbrev pub invariant-loop-done : goal.invariant-loop-done
invariant-loop-done g l = l.text ≡ l.initial.text ++ bits_text l.done l.style l.upper l.lower
