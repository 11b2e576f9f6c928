use Rattle.std.proofs.{Common.{◌≡◌, map, length, take, drop, ◌++◌, rules, arith}, lemmas.List.take_at}
use Rattle.qr_bits.specs.{declared.interpretation.Interpretation.TheVariants.Default, Segmentation.IsLeastSegmentation, Steps.Segmentation.{marked, written_in}}
use Rattle.qr_bits.proofs.lemmas.segmentation.MarkedLemmas.{least-marked, marked-length}
use Rattle.qr_bits.proofs.segmentation.least_marked_segments.Goals as goal

pub restore_bytes-requires-clause-whole : goal.restore_bytes-requires-clause-whole
restore_bytes-requires-clause-whole c =
    let xs = c.args.input.now in
    let segs = c.in_ok-segments.segments.items in
    let least : IsLeastSegmentation Default c.args.version c.args.rule (map marked xs) (map marked xs) segs = search arith in
    rw c.deref-2.ensures.value (marked-length c.args.version c.args.rule xs (map marked xs) segs least)

pub returns-clause-ok : goal.returns-clause-ok
returns-clause-ok c =
    let xs = c.args.input.now in
    let segs = c.in_ok-segments.segments.items in
    let old = c.in_ok-characters.characters in
    let new = c.restore_bytes.new.characters in
    let least : IsLeastSegmentation Default c.args.version c.args.rule (map marked xs) (map marked xs) segs = search arith in
    let is : new ≡ written_in xs segs = rw c.deref-2.ensures.value at c.restore_bytes.ensures in
    let back : take old.len (new ++ drop (length new) old.items) ≡ written_in xs segs = search (rules, take_at) in
    rw back (least-marked c.args.version c.args.rule xs segs c.requires.single least)
