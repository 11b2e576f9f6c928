use Rattle.std.proofs.Common.{◌≡◌, true, arith, rules, refl, below_more, inl, inr}
use Rattle.std.proofs.lemmas.Bool.{cases_lt}
use Rattle.qr_pictures.proofs.lemmas.turn.{row-outside}
use Rattle.qr_pictures.proofs.turn.has_finder.Goals as goal

pub loop-row-preserved : goal.loop-row-preserved
loop-row-preserved c = let e : c.is_finder_row.result ≡ true = search rules in below_more _ _ c.loop-row.invariant (λ l. c.is_finder_row.ensures.0 e)

pub returns : goal.returns
returns c = (
  λ e. record {
    rings = λ r col l m near. elim (cases_lt r c.loop-row.row) [
      | inl lt ↦ ((c.loop-row.invariant r lt l).each col m).ring near
      | inr ge ↦ absurd (row-outside c.args.a c.args.b r col (omega arith) near)
    ];
  },
  λ h. refl,
)
