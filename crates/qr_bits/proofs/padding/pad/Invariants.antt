use Rattle.{std.proofs.Common.{◌≡◌, ◌-◌, ◌≤◌, ◌++◌}, qr_bits.specs.Padding.pads}
use Rattle.qr_bits.proofs.padding.pad.Given as goal

-- the pad codewords so far
abbrev pub invariant-loop-i : goal.invariant-loop-i
invariant-loop-i l = record {
  written : l.codewords.items ≡ l.initial.codewords.items ++ pads (l.i - l.first);
  few : l.i - l.first ≤ l.len - l.first;
}
