use Rattle.{qr_bits.specs.Interpretation.segments_among, std.proofs.Common.{◌≡◌, ◌++◌, drop}}
use Rattle.qr_bits.proofs.interpretation.segments_among.Given as goal

-- the segments so far and those of the other items make the whole
abbrev pub invariant-loop-item : goal.invariant-loop-item
invariant-loop-item l = l.segments.items ++ segments_among (drop l.item-index l.items) ≡ segments_among l.items
