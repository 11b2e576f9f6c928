use Rattle.std.proofs.{lemmas.{Grind.common_steps, Bool.Decides.Decides-eqb, Slice.Eq.slice_eq-Decides}, Common.{rules, ◌≡◌, arith}}
use Rattle.qr_drawing.specs.Drawing.{drawn}
use Rattle.qr_parsing.proofs.parsing.is_drawn.Goals as goal

-- what was drawn is the whole drawing, and `==` compares it with the text
pub returns-in-Ok : goal.returns-in-Ok
returns-in-Ok c =
    let s = c.args.shown.now in
    let whole : c.as_slice.result.now ≡ drawn s.kind s.margin s.squares.items = grind (arith, common_steps) in
    search (rules, slice_eq-Decides, Decides-eqb)
