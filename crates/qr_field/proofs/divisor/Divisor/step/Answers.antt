use Rattle.std.proofs.{Common.{rules, ◌≡◌, ◌/◌, ◌%◌, ◌^◌, get_or, ap, ◌∙◌, arith, bit_xor, bit_and}, lemmas.{Grind.common_steps, Nat.{and_mask, xor_of_8}}}
use Rattle.qr_field.specs.Steps.Register.{packed, divisor_of, value_of, zero_register}
use Rattle.qr_field.{specs.Polynomial.scaled, proofs.lemmas.divisor.{held-step, multiple-of_halves}}
use Rattle.qr_field.proofs.divisor.Divisor.step.Goals as goal

pub returns : goal.returns
returns c = λ m i l e h.
    let n = c.args.self.now in
    let v = value_of c.args.register in
    let divisor = c.self.inside in
    let first = bit_and c.args.register.low 255 in
    let is_first : first ≡ v % 2 ^ 8 = and_mask c.args.register.low 8 ∙ (omega arith) in
    let factor = bit_xor c.args.codeword first in
    let place = c.from-factor.result in
    let row = value_of c.plus-multiple.result in
    let low : bit_and place 15 ≡ factor % 2 ^ 4 = and_mask place 4 ∙ ap (λ t. t % 2 ^ 4) c.from-factor.ensures in
    let high : place / 2 ^ 4 ≡ factor / 2 ^ 4 = ap (λ t. t / 2 ^ 4) c.from-factor.ensures in
    search (
      rules,
      held-step,
      c.plus-multiple.ensures ∙ (ap (λ t. bit_xor (value_of (get_or divisor.low t zero_register)) (value_of (get_or divisor.high (place / 2 ^ 4) zero_register))) low
          ∙ (ap (λ t. bit_xor (value_of (get_or divisor.low (factor % 2 ^ 4) zero_register)) (value_of (get_or divisor.high t zero_register))) high
          ∙ multiple-of_halves (divisor_of divisor.count) divisor.low divisor.high factor (xor_of_8 c.args.codeword first (omega (arith, c.ranges.codeword)) (omega (
            arith,
            is_first,
          ))) c.self.invariant.2 c.self.invariant.3 ∙ ap (λ t. packed (scaled factor (divisor_of t))) c.self.view_is)),
    )

pub offset_bounds-self-inside-factor-2 : goal.offset_bounds-self-inside-factor-2
offset_bounds-self-inside-factor-2 c = grind (arith, common_steps)
