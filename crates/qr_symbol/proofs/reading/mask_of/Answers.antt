use Rattle.{qr_symbol.specs.Reading.IsFormat, std.proofs.lemmas.Bool.iff_false}
use borrow.Author.Count.{below_more}
use Rattle.qr_symbol.proofs.reading.mask_of.Goals as goal

pub loop-mask-preserved : goal.loop-mask-preserved
loop-mask-preserved c = below_more (λ k. IsFormat c.args.matrix.now c.args.level k → ⊥) c.loop-mask.mask
    c.loop-mask.invariant (iff_false c.has_format.ensures c.if-has_format.false)
