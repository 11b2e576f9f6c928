use Rattle.{qr_bits.specs.{Segmentation.Covers, Stream.segments_stream}, std.proofs.Common.{◌≡◌, ◌++◌, ◌<◌, ◌^◌, drop, length}}
use Rattle.qr_bits.proofs.stream.put_segments.Given as goal

-- what is written and what is left are the whole
abbrev pub invariant-loop-segment : goal.invariant-loop-segment
invariant-loop-segment l = record {
  whole : l.writer ++ segments_stream l.version l.rest (drop l.segment-index l.segs) ≡ l.initial.writer ++ segments_stream l.version l.input l.segs;
  covered : Covers l.rest (drop l.segment-index l.segs);
  short : length l.rest < 2 ^ 16;
}
