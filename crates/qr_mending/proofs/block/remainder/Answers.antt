use Rattle.{qr_field.specs.Polynomial.IsByte, qr_mending.proofs.lemmas.block.{block-found, remainder-values}}
use Rattle.std.proofs.{Common.{◌-◌, ◌∙◌, length, length-drop, sym, arith}, lemmas.{Bool.Decides.Decides-eqb, List.{take_rest, Elements.All-from_get_or}}}
use Rattle.std.proofs.lemmas.Slice.Eq.{slice_eq-Decides}
use Rattle.qr_mending.proofs.block.remainder.Goals as goal

pub returns-then-eq-clause-block : goal.returns-then-eq-clause-block
returns-then-eq-clause-block c =
    let b = c.args.codewords.now in
    let k = length b - c.count.result in
    let test = slice_eq-Decides Decides-eqb _ _ _ c.eq.ensures in
    block-found c.args.divisor.now k b c.correction-correction.result.items c.correction-correction.ensures.definition
    (sym c.as_slice.ensures.value ∙ (test.0 c.if-eq.true ∙ take_rest b k))

pub returns-clause-same : goal.returns-clause-same
returns-clause-same c =
    let b = c.args.codewords.now in
    let k = length b - c.count.result in
    remainder-values c.args.divisor.now k b c.correction-correction.result.items c.sum.result.items
    (All-from_get_or IsByte b 0 (λ i l. omega (arith, c.type_inv.codewords i))) (omega arith)
    c.correction-correction.ensures.definition
    (rw (take_rest b k, c.as_slice-2.ensures.value) at c.sum.ensures.sum)
    (omega (arith, rw (take_rest b k) at c.sum.ensures.count, length-drop k b))
