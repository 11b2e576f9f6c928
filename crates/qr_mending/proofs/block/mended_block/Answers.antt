use Rattle.{qr_field.specs.Polynomial.{IsByte, plus}, qr_mending.proofs.lemmas.block.{all-leading, search-mended, errors-few}}
use Rattle.std.proofs.{Common.{rules, ◌∙◌, refl, arith}, lemmas.List.Elements.All-from_get_or}
use Rattle.qr_mending.proofs.block.mended_block.Goals as goal

pub advance-requires-clause-progress : goal.advance-requires-clause-progress
advance-requires-clause-progress c = c.new-progress.ensures c.args.t c.args.remainder.now

pub returns-then-not-advance-clause-refused : goal.returns-then-not-advance-clause-refused
returns-then-not-advance-clause-refused c = λ mended m.
    let damaged = c.args.damaged.now in
    let few = errors-few c.args.divisor.now c.args.t c.args.remainder.now damaged mended c.requires.most
    (All-from_get_or IsByte damaged 0 (λ i l. omega (arith, c.type_inv.damaged i))) c.requires.same c.requires.count m in
    c.if-not-advance.ensures.beyond (plus damaged mended) few

pub returns-then-not-advance-2-clause-refused : goal.returns-then-not-advance-2-clause-refused
returns-then-not-advance-2-clause-refused c = λ mended m.
    let damaged = c.args.damaged.now in
    let few = errors-few c.args.divisor.now c.args.t c.args.remainder.now damaged mended c.requires.most
    (All-from_get_or IsByte damaged 0 (λ i l. omega (arith, c.type_inv.damaged i))) c.requires.same c.requires.count m in
    c.if-not-advance-2.ensures.beyond (plus damaged mended) few

pub without_errors-early-requires-clause-leading : goal.without_errors-early-requires-clause-leading
without_errors-early-requires-clause-leading c = search (rules, all-leading)

pub without_errors-block-requires-clause-leading : goal.without_errors-block-requires-clause-leading
without_errors-block-requires-clause-leading c =
    rw c.coefficients-2.ensures.value
    (all-leading c.advance-2.new.self.search.best c.if-not-advance-2.ensures.progress.search.best.monic c.coefficients-2.ensures.terms)

pub returns-then-progress-t-clause-refused : goal.returns-then-progress-t-clause-refused
returns-then-progress-t-clause-refused c = λ mended m.
    let damaged = c.args.damaged.now in
    let same = search-mended c.advance.new.self c.args.t damaged c.args.remainder.now c.without_errors-early.result.items
    c.requires.most (All-from_get_or IsByte damaged 0 (λ i l. omega (arith, c.type_inv.damaged i))) c.requires.same
    c.if-not-advance.ensures.progress c.if-progress-t.true
    (rw (c.coefficients.ensures.value, c.as_slice.ensures.value) at c.without_errors-early.ensures.sum)
    mended (rw (← c.requires.count) at m) in
    search rules

pub returns-then-not-is_mended-clause-refused : goal.returns-then-not-is_mended-clause-refused
returns-then-not-is_mended-clause-refused c = λ mended m.
    let damaged = c.args.damaged.now in
    let same = search-mended c.advance-2.new.self c.args.t damaged c.args.remainder.now c.without_errors-block.result.items
    c.requires.most (All-from_get_or IsByte damaged 0 (λ i l. omega (arith, c.type_inv.damaged i))) c.requires.same
    c.if-not-advance-2.ensures.progress (c.if-not-advance-2.ensures.all refl)
    (rw (c.coefficients-2.ensures.value, c.as_slice-3.ensures.value) at c.without_errors-block.ensures.sum)
    mended (rw (← c.requires.count) at m) in
    c.if-not-is_mended.ensures.no (rw (c.as_slice-4.ensures.value ∙ same) m)
