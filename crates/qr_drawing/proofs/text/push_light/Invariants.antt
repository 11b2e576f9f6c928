use Rattle.{qr_drawing.specs.{Raster.texts_below, Steps.Text.cell_text}, std.proofs.Common.{◌≡◌, ◌+◌, ◌*◌, ◌/◌, ◌++◌, false}}
use Rattle.qr_drawing.proofs.text.push_light.Given as goal

abbrev pub invariant-loop-quads : goal.invariant-loop-quads
invariant-loop-quads l = l.text ≡ l.fn.text ++ texts_below (l.quads * 4) (λ _. cell_text l.style false false)

abbrev pub invariant-loop-cells : goal.invariant-loop-cells
invariant-loop-cells l = l.text ≡ l.fn.text ++ texts_below (l.count / 4 * 4 + l.cells) (λ _. cell_text l.style false false)
