use Rattle.{qr_bits.proofs.lemmas.segmentation.MarkedLemmas.IsRestored, std.proofs.Common.drop}
use Rattle.qr_bits.proofs.segmentation.restore_bytes.Given as goal

abbrev pub invariant-loop-segment : goal.invariant-loop-segment
invariant-loop-segment l = IsRestored l.input l.segments l.characters l.begin (drop l.segment-index l.segments)
