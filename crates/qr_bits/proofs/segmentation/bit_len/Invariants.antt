use Rattle.{std.proofs.Common.{◌≡◌, ◌+◌, drop}, qr_bits.specs.Segmentation.bits}
use Rattle.qr_bits.proofs.segmentation.bit_len.Given as goal

-- the bits so far and those of the rest
abbrev pub invariant-loop-segment : goal.invariant-loop-segment
invariant-loop-segment l = l.bits + bits l.v (drop l.segment-index l.segs) ≡ bits l.v l.segs
