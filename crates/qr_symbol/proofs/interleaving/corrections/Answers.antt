use Rattle.std.proofs.Common.{◌+◌, ◌*◌, ap, subst, arith}
use Rattle.qr_symbol.{specs.Interleaving.{block_count, IsChecks}, proofs.lemmas.interleaving.CheckLemmas.push-checks}
use Rattle.qr_symbol.proofs.interleaving.corrections.Goals.{then-count-eq1+in_ok-extend_from_slice-3, else-count-eq1}
use Rattle.qr_symbol.proofs.interleaving.corrections.Goals as goal

pub loop-pair-preserved : goal.loop-pair-preserved
loop-pair-preserved c =
    let one = push-checks c.args.blocks c.args.message.now _ _ _ _ (2 * c.loop-pair.pair) c.of_data-sizes.ensures (omega arith)
    (rw (c.new-divisor.ensures, c.part-first.ensures.value, c.from-ec_len.ensures, ← c.as_slice.ensures.value) at c.corrections-left.ensures.first)
    c.loop-pair.invariant c.in_ok-extend_from_slice.ensures.items in
    let two = push-checks c.args.blocks c.args.message.now _ _ _ _ (2 * c.loop-pair.pair + 1) c.of_data-sizes.ensures (omega arith)
    (rw (c.new-divisor.ensures, c.part-second.ensures.value, c.from-ec_len.ensures, ← c.as_slice-in-loop-pair.ensures.value) at c.corrections-left.ensures.second)
    one c.in_ok-extend_from_slice-2.ensures.items in
    subst (λ k. IsChecks c.args.blocks c.args.message.now k c.extend_from_slice-in-loop-pair.new.self.items) (omega arith) two

pub returns : goal.returns
returns c = elim c.if-count-eq1.branch [
  | then-count-eq1+in_ok-extend_from_slice-3 w ↦
      let before = subst (λ k. IsChecks c.args.blocks c.args.message.now k c.loop-pair.corrections.items) (omega arith) c.loop-pair.invariant in
      let all = push-checks _ _ _ _ _ _ _ c.of_data-sizes.ensures (omega arith)
      (rw (c.new-divisor.ensures, w.part.ensures.value, c.from-ec_len.ensures, ← w.as_slice-then-count-eq1.ensures.value) at w.correction-check.ensures.definition)
      before w.in_ok-extend_from_slice-3.ensures.items in
      rw w.corrections-is (subst (λ k. IsChecks c.args.blocks c.args.message.now k w.extend_from_slice-then-count-eq1.new.self.items) (omega (arith, ap block_count c.of_data-sizes.ensures)) all)
  | else-count-eq1 w ↦
      rw w.corrections-is (subst (λ k. IsChecks c.args.blocks c.args.message.now k c.loop-pair.corrections.items) (omega (arith, ap block_count c.of_data-sizes.ensures)) c.loop-pair.invariant)
]
