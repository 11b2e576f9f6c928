use Rattle.{std.proofs.Common.{◌++◌, ◌≡◌, ◌≤◌}, qr_bits.specs.Bits.{bits_of, field}}
use Rattle.qr_bits.proofs.bits.BitWriter.put.Given as goal

-- the bytes so far and the bits that are left are all the bits
abbrev pub invariant-loop-left : goal.invariant-loop-left
invariant-loop-left l = record {
  few : l.left ≤ 23;
  bits : bits_of l.whole.items ++ field l.left l.bits ≡ bits_of l.initial.whole.items ++ field l.initial.left l.bits;
}

abbrev pub decreases-loop-left : goal.decreases-loop-left
decreases-loop-left l = l.left
