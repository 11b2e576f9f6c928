use Rattle.qr_field.{proofs.lemmas.register.{packed-filled, packed-halves}, specs.{Polynomial.zeros, Steps.Register.packed}}
use Rattle.std.proofs.{Common.{rules, ◌≡◌, ◌++◌, ◌*◌, ◌+◌, ◌^◌, ℕ, List, length, drop, arith, ap, ◌∙◌}, lemmas.List.{length-append, length-drop, take_all}}
use Rattle.qr_field.proofs.register.Register.new.Goals as goal

pub returns : goal.returns
returns c =
    let terms = c.args.terms.now in
    let n = length terms in
    let bytes : List ℕ = c.copy_from_slice.new.self ++ drop n (zeros 32) in
    let whole : bytes ≡ terms ++ drop n (zeros 32) = search rules in
    let count : length bytes ≡ 32 = search (rules, length-append, length-drop) in
    ap (λ t. t * 2 ^ 128 + c.half_of_bytes.result) (c.half_of_bytes-2.ensures ∙ ap packed (take_all 16 (drop 16 bytes) (omega (arith, count, length-drop 16 bytes))))
    ∙ (ap (λ t. packed (drop 16 bytes) * 2 ^ 128 + t) c.half_of_bytes.ensures
    ∙ (packed-halves 16 bytes (omega (arith, count)) ∙ (ap packed whole ∙ packed-filled terms n 32)))
