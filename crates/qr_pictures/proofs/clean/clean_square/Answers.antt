use Rattle.std.proofs.Common.{sym, inl, inr}
use Rattle.qr_matrix.specs.Grid.{colour}
use Rattle.qr_pictures.specs.{Turns.turned}
use Rattle.qr_pictures.proofs.lemmas.clean.{clean-turn, greys-are, one-grey, tried-again}
use Rattle.qr_pictures.proofs.clean.clean_square.Goals as goal

pub returns-in_err-one : goal.returns-in_err-one
returns-in_err-one c =
    let p = c.args.picture.now in
    rw c.from_residual.ensures (λ s g k. one-grey p s.frame (turned s.turn s.frame.side (colour g)) s.turn k.drawing (clean-turn p s g k) c.in_err-one.ensures)

pub returns-in-None : goal.returns-in-None
returns-in-None c =
    let p = c.args.picture.now in
    tried-again c.square_in-in-None.result _ _ _ (λ h s g k. elim (greys-are p s.frame (turned s.turn s.frame.side (colour g)) c.in_ok-one.one c.in_ok-one.other k.drawing c.in_ok-one.ensures) [
      | inl e ↦ c.in-None.ensures s g k (sym e.1) (sym e.0)
      | inr e ↦ h s g k (sym e.0) (sym e.1)
    ]) c.square_in-in-None.ensures
