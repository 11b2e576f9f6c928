use Rattle.std.proofs.Common.{◌≡◌, sym, subst}
use Rattle.std.proofs.lemmas.Bool.{both_ways}
use Rattle.qr_matrix.specs.Grid.{colour}
use Rattle.qr_pictures.specs.{Pixels.IsDrawing, Steps.{IsTurn, sampled}, Turns.turned, declared.frame.Frame.Frame}
use Rattle.qr_pictures.proofs.lemmas.clean.{clean-sampled, clean-turn, clean-turn-sampled, found}
use Rattle.qr_pictures.proofs.lemmas.picture.{none-some, some-one}
use Rattle.qr_pictures.proofs.clean.square_in.Goals as goal

pub returns-in_err-frame : goal.returns-in_err-frame
returns-in_err-frame c =
    let p = c.args.picture.now in
    rw c.from_residual.ensures (λ s g k dark light. none-some (c.in_err-frame.ensures.finds s.frame (turned s.turn s.frame.side (colour g)) s.turn dark light k.drawing (clean-turn p s g k)))

pub returns-in_err-turn : goal.returns-in_err-turn
returns-in_err-turn c =
    let p = c.args.picture.now in
    rw c.from_residual-in_err-turn.ensures (λ s g k dark light.
    let same : c.in_ok-frame.frame ≡ s.frame = some-one (c.in_ok-frame.ensures.finds s.frame (turned s.turn s.frame.side (colour g)) s.turn dark light k.drawing (clean-turn p s g k)) in
    c.in_err-turn.ensures s.turn (subst (λ (f : Frame). IsTurn f.side (sampled p f) s.turn) (sym same) (clean-turn-sampled p s g k)))

pub returns-then-is_drawing : goal.returns-then-is_drawing
returns-then-is_drawing c = found c.args.picture.now c.in_ok-frame.frame c.in_ok-turn.turn (c.is_drawing.ensures.0 c.if-is_drawing.true) c.in_ok-turn.ensures

pub returns-else-is_drawing : goal.returns-else-is_drawing
returns-else-is_drawing c = λ s g k dark light.
    let p = c.args.picture.now in
    let same : c.in_ok-frame.frame ≡ s.frame = some-one (c.in_ok-frame.ensures.finds s.frame (turned s.turn s.frame.side (colour g)) s.turn dark light k.drawing (clean-turn p s g k)) in
    both_ways c.is_drawing.result c.if-is_drawing.false (c.is_drawing.ensures.1 (subst (λ (f : Frame). IsDrawing p f (sampled p f)) (sym same) (clean-sampled p s g k)))
