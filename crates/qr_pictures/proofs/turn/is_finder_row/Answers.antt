use Rattle.std.proofs.Common.{◌≡◌, true, arith, rules, refl, below_more, inl, inr}
use Rattle.std.proofs.lemmas.Bool.{cases_lt}
use Rattle.qr_pictures.proofs.lemmas.turn.{col-outside}
use Rattle.qr_pictures.proofs.turn.is_finder_row.Goals as goal

pub loop-col-preserved : goal.loop-col-preserved
loop-col-preserved c = let e : c.is_finder_module.result ≡ true = search rules in below_more _ _ c.loop-col.invariant (λ l. c.is_finder_module.ensures.0 e)

pub returns : goal.returns
returns c = (
  λ e. record {
    each = λ col m. elim (cases_lt col c.loop-col.col) [
      | inl lt ↦ c.loop-col.invariant col lt m
      | inr ge ↦ record { ring = λ near. absurd (col-outside c.args.middle.0 c.args.middle.1 c.args.row col (omega arith) near) }
    ];
  },
  λ h. refl,
)
