use Rattle.{qr_field.specs.Polynomial.IsByte, qr_mending.proofs.lemmas.locator.{best-next, factor-some, few-bound}}
use Rattle.std.proofs.{Common.{rules, ◌≡◌, ◌+◌, ◌*◌, ◌-◌, ◌∙◌, arith}, lemmas.List.{take_rest, Elements.All-from_get_or}}
use Rattle.qr_mending.proofs.locator.Search.take_in.Goals as goal

pub add-requires-clause-some : goal.add-requires-clause-some
add-requires-clause-some c = search (rules, factor-some)

pub add-requires-2-clause-some : goal.add-requires-2-clause-some
add-requires-2-clause-some c = search (rules, factor-some)

pub returns-then-degree-i-clause-search : goal.returns-then-degree-i-clause-search
returns-then-degree-i-clause-search c =
    let s = c.args.syndromes.now in
    let h = c.requires.search in
    record {
      best = best-next c.args.i (2 * c.args.self.now.best.degree - c.args.i - 1) 0 c.div-factor.result s c.args.self.now c.add.new.self
          (All-from_get_or IsByte s 0 (λ k l. omega (arith, c.type_inv.syndromes k))) h (record {
            byte = omega arith;
            degree = omega arith;
            shift = omega arith;
            cancels = search (rules, take_rest);
            sum = c.add.ensures.sum;
            monic = c.add.ensures.monic h.best.monic;
          });
      bytes = h.bytes;
      some = h.some;
      degrees = omega arith;
      before = λ j g. h.before j (omega arith);
      last = λ j g. h.last j (omega arith);
    }

pub returns-then-i-degree-clause-beyond : goal.returns-then-i-degree-clause-beyond
returns-then-i-degree-clause-beyond c = λ errors few.
    let bound = few-bound c.args.t c.args.i c.args.self.now c.args.syndromes.now errors c.requires.search c.requires.within few
    (λ e. c.if-discrepancy-eq0.false ((rw (c.coefficients.ensures.value, take_rest) at c.dot-discrepancy.ensures.value) ∙ e)) in
    omega arith

pub returns-clause-search : goal.returns-clause-search
returns-clause-search c =
    let s = c.args.syndromes.now in
    let l = c.args.self.now.best.degree in
    let i = c.args.i in
    let h = c.requires.search in
    let discrepancy = rw (c.coefficients.ensures.value, take_rest) at c.dot-discrepancy.ensures.value in
    let degree : c.add-2.new.self.degree ≡ i + 1 - l = omega arith in
    record {
      best = best-next i 0 (i + 1 - 2 * l) c.div-factor.result s c.args.self.now c.add-2.new.self
          (All-from_get_or IsByte s 0 (λ k l. omega (arith, c.type_inv.syndromes k))) h (record {
            byte = omega arith;
            degree = omega arith;
            shift = omega arith;
            cancels = c.div-factor.ensures ∙ discrepancy;
            sum = rw c.shifted-raised.ensures.terms at c.add-2.ensures.sum;
            monic = search rules;
          });
      bytes = search rules;
      some = omega arith;
      degrees = omega arith;
      before = λ j g. h.best.solved j (omega arith);
      last = λ j g.
          let index : j ≡ i - l = omega arith in
          search rules;
    }
