use Rattle.qr_field.{proofs.lemmas.galois.{PowerLemmas.power-lt, ByteLemmas.product-by_zero}, specs.{Galois.product, Polynomial.{IsByte, power}}}
use Rattle.std.proofs.{lemmas.{List.{drop_all, Elements.All-from_get_or}, Nat.xor_comm}, Common.{rules, ◌≡◌, ◌-◌, ◌+◌, ◌*◌, drop, get_or, ap, ◌∙◌, arith}}
use Rattle.qr_mending.{specs.Steps.Sums.eval, proofs.lemmas.sums.{digits-none, powers-product, eval-more, eval-all}}
use Rattle.qr_mending.proofs.sums.sixteen_values.Goals as goal

pub loop-j-init : goal.loop-j-init
loop-j-init c = search (rules, digits-none, drop_all, product-by_zero, power-lt)

pub loop-j-preserved : goal.loop-j-preserved
loop-j-preserved c = λ i l.
    let p = c.args.terms.now in
    let j = c.loop-j.j in
    let at = c.args.first + i in
    let x = get_or p (j - 1) 0 in
    let bytes = All-from_get_or IsByte p 0 (λ k m. omega (arith, c.type_inv.terms k)) in
    cc (
      c.add.ensures i l,
      powers-product x c.args.first i (j - 1) (omega (arith, c.type_inv.terms (j - 1))),
      c.loop-j.invariant i l,
      eval-more at j p bytes (omega arith) (omega arith),
      xor_comm (product (power (at * j)) (eval (power at) (drop j p))) (product x (power (at * (j - 1)))),
    )

pub returns : goal.returns
returns c = λ k l.
    let p = c.args.terms.now in
    let at = c.args.first + k in
    let none : c.loop-j.j ≡ 0 = omega arith in
    c.values.ensures k l ∙ (c.loop-j.invariant k l
    ∙ (ap (λ j. product (power (at * j)) (eval (power at) (drop j p))) none
    ∙ eval-all at p (All-from_get_or IsByte p 0 (λ i m. omega (arith, c.type_inv.terms i)))))
