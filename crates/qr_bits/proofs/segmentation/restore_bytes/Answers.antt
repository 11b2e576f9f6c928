use Rattle.qr_bits.{specs.Steps.Segmentation.{written_in, written}, proofs.segmentation.restore_bytes.Goals.{in-Alphanumeric, in-Numeric}}
use Rattle.std.proofs.{lemmas.List.{append-nil, take_all, drop_all, drop_more}, Common.{◌≡◌, ◌+◌, ◌∷◌, take, drop, get_or, arith, refl, rules}}
use Rattle.qr_bits.proofs.lemmas.segmentation.{SegmentLemmas.past_end, MarkedLemmas.{IsRestored, restored-marked, restored-copied}}
use Rattle.qr_bits.proofs.segmentation.restore_bytes.Goals as goal

pub loop-segment-preserved : goal.loop-segment-preserved
loop-segment-preserved c =
    let l = c.loop-segment in
    let segs = c.args.segments.now in
    let xs = c.args.input.now in
    let i = l.segment-index in
    let s = get_or segs i past_end in
    let later = drop (i + 1) segs in
    let next : drop i segs ≡ s ∷ later = drop_more segs i past_end c.loop-segment-test.true in
    let so_far : IsRestored xs segs l.characters l.begin (s ∷ later) = rw next at l.invariant in
    elim c.match-segment.branch [
      | in-Alphanumeric w ↦ rw (w.characters-is, w.begin-is) (restored-marked xs segs l.characters l.begin _ s later c.requires.single so_far refl w.in-Alphanumeric.is)
      | in-Numeric w ↦
          let own : written s.mode (take s.len (drop l.begin xs)) ≡ take s.len (drop l.begin xs) = (let h = w.in-Numeric.is in search arith) in
          rw (w.characters-is, w.begin-is) (restored-copied xs segs l.characters _ l.begin _ s later so_far refl w.copy_from_slice.ensures.after own)
    ]

pub returns : goal.returns
unfolding written_in
returns c = search (rules, drop_all, take_all, append-nil)
