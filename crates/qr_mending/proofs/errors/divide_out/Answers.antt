use Rattle.std.proofs.Common.{rules, ◌≡◌, ◌-◌, ◌∙◌, ap, length, take, refl, sym, arith}
use Rattle.qr_mending.proofs.lemmas.{errors.RemovalLemmas.refill-same, roots.divided}
use Rattle.qr_mending.proofs.errors.divide_out.Goals as goal

pub loop-value_at_root-preserved : goal.loop-value_at_root-preserved
loop-value_at_root-preserved c =
    let now = c.loop-value_at_root.locator.items in
    let q = c.divide-value_at_root.new.terms in
    let n = c.pop.new.self.items in
    let same = c.as_mut_slice.ensures.value in
    let count : length q ≡ length now = omega (arith, ap length same) in
    let d = divided c.args.root now q n (omega arith) (rw same at c.divide-value_at_root.ensures.bytes) c.loop-value_at_root.invariant.leading
    (sym c.loop-value_at_root.invariant.value ∙ c.loop-value_at_root-test.true) (rw same at c.divide-value_at_root.ensures.quotient)
    (c.pop.ensures.rest ∙ ap (λ t. take (length t - 1) t) (refill-same now q (length now) refl count)) in record {
      leading = d.leading;
      value = rw same at c.divide-value_at_root.ensures.value ∙ d.value;
      most = omega arith;
      shorter = λ some. omega arith;
      others = search rules;
    }
