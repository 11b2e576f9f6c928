use Rattle.{qr_mending.proofs.lemmas.locator.{few-values, progress-next}, std.proofs.Common.{rules, refl, ◌∙◌, arith}}
use Rattle.qr_mending.proofs.locator.Progress.advance.Goals as goal

pub take_in-requires-clause-search : goal.take_in-requires-clause-search
take_in-requires-clause-search c =
    let progress = c.prepare.ensures.progress c.args.t c.loop-i.invariant.progress in
    search rules

pub take_in-requires-clause-degree : goal.take_in-requires-clause-degree
take_in-requires-clause-degree c =
    let progress = c.prepare.ensures.progress c.args.t c.loop-i.invariant.progress in progress.degree

pub returns-then-not-take_in-clause-beyond : goal.returns-then-not-take_in-clause-beyond
returns-then-not-take_in-clause-beyond c = λ errors few.
    let progress = c.prepare.ensures.progress c.args.t c.loop-i.invariant.progress in
    search (rules, few-values)

pub returns-then-i-self-clause-progress : goal.returns-then-i-self-clause-progress
returns-then-i-self-clause-progress c =
    let now = c.prepare.ensures.taken ∙ c.loop-i.invariant.taken in
    progress-next c.args.t c.args.remainder.now c.prepare.new.self _ (c.prepare.ensures.progress c.args.t c.loop-i.invariant.progress)
    refl (omega arith) c.prepare.ensures.next (omega arith)
    (rw (c.as_slice.ensures.value, ← now) at c.if-not-take_in.ensures.search) c.if-not-take_in.ensures.degree

pub loop-i-preserved : goal.loop-i-preserved
loop-i-preserved c =
    let now = c.prepare.ensures.taken ∙ c.loop-i.invariant.taken in record {
      taken = refl;
      progress = progress-next c.args.t c.args.remainder.now c.prepare.new.self _ (c.prepare.ensures.progress c.args.t c.loop-i.invariant.progress)
          refl (omega arith) c.prepare.ensures.next (omega arith)
          (rw (c.as_slice.ensures.value, ← now) at c.if-not-take_in.ensures.search) c.if-not-take_in.ensures.degree;
    }
