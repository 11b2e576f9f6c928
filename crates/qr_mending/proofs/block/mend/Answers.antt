use Rattle.{qr_mending.proofs.lemmas.block.{mended-same, mended-one}, std.proofs.Common.{rules, ◌∙◌, sym}}
use Rattle.qr_mending.proofs.block.mend.Goals as goal

pub returns-in_default-clause-only : goal.returns-in_default-clause-only
returns-in_default-clause-only c = λ mended h.
    let b = c.args.codewords.now in
    let same = mended-same c.args.divisor.now c.args.t b c.in_default.ensures.block in
    search (rules, mended-one)

pub returns-clause-only : goal.returns-clause-only
returns-clause-only c = λ mended h.
    mended-one c.args.divisor.now c.args.t c.args.codewords.now mended c.in-Some-mended_block.mended.items c.requires.most
    c.requires.half h c.in-Some-mended_block.ensures.mended
    ∙ sym (c.copy_from_slice.ensures.after ∙ c.as_slice-3.ensures.value)
