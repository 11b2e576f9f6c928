use Rattle.std.proofs.{lemmas.{Grind.common_steps, List.take_all}, Common.{rules, arith}}
use Rattle.qr_symbol.proofs.lemmas.patterns.PaintLemmas.{over-item, over-same, over-side, over-sized}
use Rattle.qr_symbol.proofs.patterns.fill_alignment.Goals as goal

pub loop-centre-preserved : goal.loop-centre-preserved
loop-centre-preserved c = grind (arith, common_steps, over-item, over-sized, over-side)

pub returns : goal.returns
returns c = search (rules, over-same, take_all)
