use Rattle.{std.proofs.Common.drop, qr_bits.specs.Segmentation.Covers}
use Rattle.qr_bits.proofs.segmentation.covers.Given as goal

-- the segments so far cover what is no more in the rest
abbrev pub invariant-loop-segment : goal.invariant-loop-segment
invariant-loop-segment l = record {
  whole : Covers l.rest (drop l.segment-index l.segs) → Covers l.input l.segs;
  rest : Covers l.input l.segs → Covers l.rest (drop l.segment-index l.segs);
}
