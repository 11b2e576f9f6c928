use Rattle.{qr_bits.specs.Steps.Segmentation.marked, std.proofs.{Common.rules, lemmas.List.Edits.map_over_more}}
use Rattle.qr_bits.proofs.segmentation.mark_separators.Goals as goal

pub loop-character-preserved : goal.loop-character-preserved
loop-character-preserved c = search (rules, map_over_more marked)
