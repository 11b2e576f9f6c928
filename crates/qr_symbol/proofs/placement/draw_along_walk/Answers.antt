use Rattle.{qr_layout.specs.Order.IsOrder, qr_matrix.proofs.Facts.square-same}
use Rattle.{qr_symbol.proofs.lemmas.placement.WalkLemmas.{walked-start, walked-in, walked-step, walked-small}, std.proofs.Common.{rules, sym, subst, arith}}
use Rattle.qr_symbol.proofs.placement.draw_along_walk.Goals as goal

pub loop-module-init : goal.loop-module-init
loop-module-init c = record {
  can_next = tt;
  is_finite = tt;
  walked = walked-start _ _ _ _ _ c.requires (subst (IsOrder _) (sym c.into_iter-module-iterator.ensures.into_iter_gives) c.walk-module-items.ensures.order);
}

pub set-requires : goal.set-requires
set-requires c = let inside = walked-in _ _ _ _ _ _ _ _ _ _ c.loop-module.invariant.walked c.in-Some.ensures.steps in
    record { row_in = inside.0; col_in = inside.1 }

pub overflow_add-number : goal.overflow_add-number
overflow_add-number c =
    let small = walked-small _ _ _ _ _ _ _ _ (omega arith) (omega arith) c.loop-module.invariant.walked in omega arith

pub loop-module-preserved : goal.loop-module-preserved
loop-module-preserved c = record {
  can_next = tt;
  is_finite = tt;
  walked = rw c.set.ensures (walked-step _ _ _ _ _ _ _ _ _ _ _ _ c.bit_at-bit.ensures c.inverts.ensures c.in-Some.ensures.steps c.loop-module.invariant.walked);
}

pub returns : goal.returns
returns c = search (rules, square-same)
