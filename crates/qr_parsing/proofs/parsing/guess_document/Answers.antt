use Rattle.std.proofs.Common.{rules, ◌≡◌, ◌/◌, ◌∙◌, length, ap, sym, arith}
use Rattle.qr_parsing.proofs.lemmas.{svg.{DocumentLemmas.svg-path, PaintLemmas.bytes-inside}, parsing.{kind-shown, none-wide}}
use Rattle.qr_parsing.proofs.parsing.guess_document.Goals as goal

pub returns-in_default : goal.returns-in_default
returns-in_default c = none-wide c.args.text.now c.in_default.ensures.size

pub invariant_of-sheet-clause-whole : goal.invariant_of-sheet-clause-whole
invariant_of-sheet-clause-whole c = λ k y x a b l.
    let s = c.in-Some.ensures.size in
    let w = c.in-Some.size.width in
    let h = c.in-Some.size.height in
    let count : c.in-Some.size.count ≡ h / w = s.1 ∙ (λ i. sym s.2 i / sym s.0 i) in
    omega (arith, bytes-inside w h c.in-Some.size.count k y x (omega arith) count a b l, ap length c.deref.ensures.value ∙ c.in_ok-bytes.ensures.area)

pub returns : goal.returns
returns c = search (rules, kind-shown, svg-path)
