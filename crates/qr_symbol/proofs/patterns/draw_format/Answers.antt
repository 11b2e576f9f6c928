use Rattle.qr_symbol.proofs.lemmas.{patterns.FormatDrawingLemmas.{FormatDone, format-start, format-step, format-end}, placement.PlacementLemmas.painted-square}
use Rattle.{qr_symbol.proofs.lemmas.words.BitLemmas.set-bit, std.proofs.Common.{rules, subst, ℕ, arith}}
use Rattle.qr_symbol.proofs.patterns.draw_format.Goals as goal

pub loop-bit-init : goal.loop-bit-init
loop-bit-init c = search (rules, format-start)

pub loop-bit-preserved : goal.loop-bit-preserved
loop-bit-preserved c = search (rules, format-step, painted-square, set-bit)

pub returns : goal.returns
returns c = let i = c.loop-bit.invariant in
    format-end _ _ _ _ i.square (subst (λ (z : ℕ). FormatDone c.args.version c.args.format z c.args.matrix.now c.loop-bit.matrix) (omega arith) i.done)
