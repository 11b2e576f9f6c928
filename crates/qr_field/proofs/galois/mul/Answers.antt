use Rattle.qr_field.{proofs.lemmas.galois.{ProductLemmas.{product-one, product-none, product-definition}, PowerLemmas.product-of_powers}, specs.Galois.product}
use Rattle.std.proofs.Common.{rules, ◌≡◌, ◌⊎◌}
use Rattle.qr_field.proofs.galois.mul.Goals as goal

pub returns-then-a-eq0 : goal.returns-then-a-eq0
returns-then-a-eq0 c =
    let either : (c.args.a ≡ 0) ⊎ (c.args.b ≡ 0) = search rules in
    search (rules, product-none, product-definition, product-one)

pub returns : goal.returns
returns c =
    let a = c.args.a in
    let b = c.args.b in
    let i = c.exponent_of.result in
    let j = c.exponent_of-2.result in
    let first = c.exponent_of.ensures in
    let second = c.exponent_of-2.ensures in
    let e : c.power_of.result ≡ product a b = search (rules, product-of_powers) in
    search (rules, product-definition, product-one)
