use Rattle.qr_bits.proofs.lemmas.segmentation.{CoverLemmas.{CoversBy, by-covers, covers-by}, SegmentLemmas.{covers-next, next-covers, past_end}}
use Rattle.std.proofs.{lemmas.{List.{drop_all, nil_from_length}, Bool.{false≢true, eqb-true, eq-eqb}}, Common.{arith, rules}}
use Rattle.qr_bits.proofs.segmentation.covers.Goals as goal

pub returns-then-len-eq0 : goal.returns-then-len-eq0
returns-then-len-eq0 c = (
  λ e. absurd (false≢true e),
  λ k.
      search (rules, covers-next c.loop-segment.rest.now c.args.segs.now c.loop-segment.segment-index past_end c.loop-segment-test.true (c.loop-segment.invariant.rest k)),
)

pub returns-then-not-suits : goal.returns-then-not-suits
returns-then-not-suits c = search (rules, false≢true, covers-next, past_end)

pub loop-segment-preserved : goal.loop-segment-preserved
loop-segment-preserved c = search (arith, past_end, next-covers, covers-next)

pub returns : goal.returns
unfolding CoversBy
returns c = search (rules, nil_from_length, eqb-true, eq-eqb, drop_all, covers-by, by-covers)
