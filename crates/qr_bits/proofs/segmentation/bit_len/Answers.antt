use Rattle.std.proofs.{Common.{arith, rules}, lemmas.List.Sums.sum_by-drop_more, lemmas.List.Sums.sum_by-take-drop}
use Rattle.qr_bits.{specs.declared.segmentation.Segment.Segment, proofs.lemmas.segmentation.SegmentLemmas.{bits-drop, bits-most, past_end}}
use Rattle.qr_bits.proofs.segmentation.bit_len.Goals as goal

pub overflow_add-bits-in-loop-segment : goal.overflow_add-bits-in-loop-segment
overflow_add-bits-in-loop-segment c = search (rules, bits-drop, past_end, bits-most)

pub payload_bits-requires : goal.payload_bits-requires
payload_bits-requires c =
    let segs = c.args.segs.now in
    let i = c.loop-segment.segment-index in
    omega (arith, sum_by-drop_more (λ (s : Segment). s.len) segs i past_end c.loop-segment-test.true, sum_by-take-drop (λ (s : Segment). s.len) segs i, c.requires.short)

pub loop-segment-preserved : goal.loop-segment-preserved
loop-segment-preserved c = search (rules, bits-drop, past_end)
