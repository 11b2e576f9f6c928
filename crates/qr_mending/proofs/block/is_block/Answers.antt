use Rattle.qr_mending.proofs.lemmas.block.{block-corrects, block-found}
use Rattle.std.proofs.{Common.{rules, ◌-◌, length, sym, ◌∙◌}, lemmas.{Bool.Decides.Decides-eqb, List.take_rest, Slice.Eq.slice_eq-Decides}}
use Rattle.qr_mending.proofs.block.is_block.Goals as goal

pub returns : goal.returns
returns c =
    let n = c.args.divisor.now in
    let b = c.args.codewords.now in
    let m = c.count.result in
    let k = length b - m in
    let test = slice_eq-Decides Decides-eqb _ _ _ c.eq.ensures in (
      λ h. block-found n k b c.correction-correction.result.items c.correction-correction.ensures.definition
          (sym c.as_slice.ensures.value ∙ (test.0 h ∙ take_rest b k)),
      λ h. test.1 (search (rules, take_rest, block-corrects)),
    )
