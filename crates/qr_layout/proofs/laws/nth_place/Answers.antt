use Rattle.std.proofs.{Common.{◌≡◌, Option, refl, sym, ap, ◌∙◌, arith}, lemmas.Iterator.Consumers.{nth_from_yields_List, YieldsList-from_first}}
use Rattle.std.specs.{List.slice_get, Option.option_map}
use Rattle.qr_layout.{specs.declared.region.Module.Module, proofs.lemmas.order.OrderLemmas.only-order}
use Rattle.qr_layout.proofs.laws.nth_place.Goals as goal

same : (r : Option Module) → option_map (λ (x : Module). x) r ≡ r
same r = grind arith

pub returns : goal.returns
returns c = λ ms o.
    let e = only-order c.args.version c.walk.result ms c.walk.ensures.order o in
    sym (same c.nth.result) ∙ (nth_from_yields_List c.nth.result c.nth.new.self c.args.index c.nth.ensures.ran (YieldsList-from_first (λ (x : Module). x) (λ s. s) c.walk.result refl) ∙ ap (λ xs. slice_get xs c.args.index) e)
