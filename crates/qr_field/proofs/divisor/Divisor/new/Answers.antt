use Rattle.qr_field.proofs.lemmas.{divisor.{multiples-sixteen, packed-sixteen}, polynomial.PolynomialLemmas.bytes-generator, register.scaled-unpacked}
use Rattle.qr_field.specs.{Polynomial.IsByte, Steps.Register.{divisor_of, packed, value_of}}
use Rattle.std.{proofs.{Common.{rules, ◌≡◌, ◌≤◌, length, drop, ap, ◌∙◌, arith}, lemmas.List.{length-drop, Elements.All-drop}}, specs.List.All}
use Rattle.qr_field.proofs.divisor.Divisor.new.Goals as goal

pub invariant_of-result : goal.invariant_of-result
invariant_of-result c =
    let divisor = divisor_of c.args.n in
    let v = value_of c.new-by_one.result in
    let is : c.as_slice.result.now ≡ divisor = c.as_slice.ensures.value ∙ ap (drop 1) c.generator.ensures in
    let by_one : v ≡ packed divisor = c.new-by_one.ensures ∙ ap packed is in
    let few : length divisor ≤ 32 = search (rules, length-drop) in
    let bytes : All IsByte divisor = search (rules, All-drop, bytes-generator) in
    let by_sixteen =
    packed-sixteen divisor v (value_of c.doubled.result) (value_of c.doubled-2.result) (value_of c.doubled-3.result)
    (value_of c.doubled-by_sixteen.result) few bytes by_one c.doubled.ensures c.doubled-2.ensures c.doubled-3.ensures
    c.doubled-by_sixteen.ensures in (
      c.requires.least,
      c.requires.most,
      search (arith, scaled-unpacked),
      multiples-sixteen divisor (value_of c.doubled-by_sixteen.result) c.multiples-2.result few bytes by_sixteen c.multiples-2.ensures,
    )
