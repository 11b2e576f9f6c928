use Rattle.{qr_bits.proofs.lemmas.bits.BitLemmas.{filled-codewords, filled-up}, std.proofs.Common.{rules, ◌∙◌}}
use Rattle.qr_bits.proofs.bits.BitWriter.into_codewords.Goals as goal

pub returns : goal.returns
returns c =
    let full = c.in_ok-put.ensures ∙ filled-up c.self.inside.whole.items c.self.inside.width c.self.inside.rest c.args.self c.self.invariant.0 c.self.view_is in
    search (rules, filled-codewords)
