use Rattle.qr_bits.{proofs.Facts.{bits_of-more, bool_byte-bit, field-more}, specs.Bits.field}
use Rattle.qr_symbol.proofs.lemmas.words.JoinLemmas.{added, filled-more, on-error, push-made, pushed}
use Rattle.std.proofs.{Common.{rules, ◌≡◌, ◌∙◌, sym, add-one, append-nil, arith}, Math.Nat.pow-suc, lemmas.Grind.common_steps}
use Rattle.qr_symbol.proofs.words.Collector.push_bit.Goals as goal

pub returns-then-self-lt7 : goal.returns-then-self-lt7
returns-then-self-lt7 c = grind (arith, common_steps, added, field-more)

pub returns-else-self-lt7 : goal.returns-else-self-lt7
unfolding field
returns-else-self-lt7 c =
    let w = c.self.inside in let seven : 7 ≡ w.width = search rules in
    rw (← c.self.view_is) (pushed _ _ _ _ _ _ _ (search (rules, append-nil, push-made, bits_of-more)) c.push.ensures.capacity (λ f. let full = on-error _ c.push.result c.push.ensures.full (sym c.is_err.ensures.value ∙ f) in filled-more w.whole.items w.width w.rest _ _ (omega arith)))

pub invariant_of-self : goal.invariant_of-self
invariant_of-self c = grind (arith, common_steps, add-one, pow-suc, bool_byte-bit)
