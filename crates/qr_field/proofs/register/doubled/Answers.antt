use Rattle.std.proofs.{Common.{◌≡◌, ◌+◌, ◌*◌, ◌/◌, ◌%◌, ◌^◌, ◌∙◌, ap, arith}, lemmas.Nat.{and_mask, or_shifted}}
use Rattle.qr_field.{specs.{Polynomial.scaled, Steps.Register.{packed, unpacked}}, proofs.lemmas.register.{byte-doubled, doubled-halves}}
use Rattle.qr_field.proofs.register.doubled.Goals as goal

pub returns : goal.returns
returns c = λ k inside.
    let x = c.args.elements in let h = x / 2 ^ 64 in let l = x % 2 ^ 64 in
    let upper : c.from.result ≡ packed (scaled 2 (unpacked 8 h)) = c.from.ensures ∙ c.doubled_word-high.ensures in
    let moved : c.from.result * 2 ^ 64 % 2 ^ 128 ≡ c.from.result * 2 ^ 64 = omega (arith, c.from.ensures, c.doubled_word-high.type_inv) in
    let both = or_shifted c.from.result 64 c.from-2.result (omega (arith, c.from-2.ensures, c.doubled_word-low.type_inv)) in
    let whole : h * 256 ^ 8 + l ≡ x = omega arith in
    byte-doubled k x _ inside (cc (moved, both, (c.from-2.ensures ∙ (c.doubled_word-low.ensures ∙ ap (λ v. packed (scaled 2 (unpacked 8 v))) (and_mask x 64))), upper, doubled-halves 8 h l (omega arith), whole))
