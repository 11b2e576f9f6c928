use Rattle.{qr_symbol.{proofs.lemmas.canvas.{patterns-kept, patterns-drawn}, specs.Steps.Canvas.HasPatterns}, std.proofs.Common.{sym, ◌∙◌, subst, arith}}
use Rattle.qr_symbol.proofs.canvas.Canvas.draw_data.Goals as goal

pub invariant_of-self : goal.invariant_of-self
invariant_of-self c =
    let v = c.args.self.now.version in let cw = c.args.codewords.now in
    let patterns = subst (HasPatterns v) (sym c.swap.ensures.y_after) c.args.self.now.patterns in record {
      region_is = c.args.self.now.region_is;
      patterns = patterns-kept v cw _
          (patterns-drawn v cw _ _ (omega arith) patterns (c.set_transposed.ensures ∙ c.draw_codewords.ensures.placed));
    }

pub returns-clause-unmasked : goal.returns-clause-unmasked
returns-clause-unmasked c =
    let v = c.args.self.now.version in
    let patterns = subst (HasPatterns v) (sym c.swap.ensures.y_after) c.args.self.now.patterns in
    patterns-drawn v _ _ _ (omega arith) patterns (c.set_transposed.ensures ∙ c.draw_codewords.ensures.placed)
