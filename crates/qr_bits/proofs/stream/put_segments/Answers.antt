use Rattle.std.proofs.{Common.{◌<◌, ℕ, append_assoc, arith, append-nil, rules}, lemmas.List.Elements.All-from_get_or}
use Rattle.qr_bits.proofs.lemmas.{segmentation.SegmentLemmas.{covers-next, past_end}, stream.WritingLemmas.{stream-next, stream-end}}
use Rattle.qr_bits.proofs.stream.put_segments.Goals as goal

pub split_at-requires : goal.split_at-requires
split_at-requires c = (covers-next c.loop-segment.rest.now c.args.segs.now c.loop-segment.segment-index past_end c.loop-segment-test.true c.loop-segment.invariant.covered).1

pub put_segment-requires-clause-suited : goal.put_segment-requires-clause-suited
put_segment-requires-clause-suited c = search (rules, covers-next, past_end)

pub loop-segment-preserved : goal.loop-segment-preserved
loop-segment-preserved c =
    let rest = c.loop-segment.rest.now in
    let segs = c.args.segs.now in
    let i = c.loop-segment.segment-index in
    let next = stream-next c.args.version rest segs i past_end c.loop-segment-test.true in
    record {
      whole = search (rules, append_assoc);
      covered = rw c.split_at.ensures.back (covers-next rest segs i past_end c.loop-segment-test.true c.loop-segment.invariant.covered).3;
      short = omega arith;
    }

pub returns : goal.returns
returns c = (search (arith, stream-end, append-nil), All-from_get_or (λ (b : ℕ). b < 256) c.args.input.now 0 (λ i h. omega (arith, c.type_inv.input i)))
