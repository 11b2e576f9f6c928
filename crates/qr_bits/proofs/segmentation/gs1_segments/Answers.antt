use Rattle.std.{proofs.Common.{◌≡◌, false, true, not, ◌&&◌, sym, ◌∙◌, refl}, specs.List.list_all}
use Rattle.qr_bits.specs.{declared.interpretation.Interpretation.TheVariants.Gs1, Steps.RunState.is_gs1, Steps.Segmentation.is_itself}
use Rattle.qr_bits.proofs.lemmas.segmentation.InterpretedLemmas.{least-interpreted}
use Rattle.qr_bits.proofs.segmentation.gs1_segments.Goals as goal

pub returns-then-escaping-clause-ok : goal.returns-then-escaping-clause-ok
returns-then-escaping-clause-ok c =
    let xs = c.args.input.now in
    let itself : list_all is_itself xs ≡ true = sym c.escaping_of-escaping.ensures.itself ∙ c.if-escaping.true in
    let own : (is_gs1 Gs1 && not (list_all is_itself xs)) ≡ false = rw itself refl in
    least-interpreted Gs1 c.args.version c.args.rule xs _ own c.in_ok-least_segments.ensures.ok
