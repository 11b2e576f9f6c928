use Rattle.{qr_layout.specs.Order.IsOrder, std.proofs.Common.{sym, subst, arith}}
use Rattle.qr_logos.proofs.lemmas.logo.MarkLemmas.{marking-end, marking-next, marking-start, marking-step}
use Rattle.qr_logos.proofs.logo.mark_covered.Goals as goal

pub loop-module-init : goal.loop-module-init
loop-module-init c = record {
  can_next = tt;
  is_finite = tt;
  marking = marking-start _ _ _ _ c.requires (subst (IsOrder _) (sym c.into_iter-module-iterator.ensures.into_iter_gives) c.walk-module-items.ensures.order);
}

pub mark-requires : goal.mark-requires
mark-requires c =
    let small = marking-next _ _ _ _ _ _ _ _ (omega arith) (omega arith) c.loop-module.invariant.marking c.in-Some.ensures.steps in
    let long = c.loop-module.invariant.marking.long in
    omega arith

pub overflow_add-number : goal.overflow_add-number
overflow_add-number c =
    let small = marking-next _ _ _ _ _ _ _ _ (omega arith) (omega arith) c.loop-module.invariant.marking c.in-Some.ensures.steps in
    omega arith

pub loop-module-preserved : goal.loop-module-preserved
loop-module-preserved c = record {
  can_next = tt;
  is_finite = tt;
  marking = marking-step _ _ _ _ _ _ _ _ _ _ (omega arith) (omega arith) c.loop-module.invariant.marking c.in-Some.ensures.steps c.is_under-under.ensures c.mark.ensures;
}

pub returns : goal.returns
returns c = marking-end _ _ _ _ _ _ c.in-None.ensures.steps.0 c.loop-module.invariant.marking
