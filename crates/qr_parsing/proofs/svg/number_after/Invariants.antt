use Rattle.{qr_parsing.specs.Steps.Svg.leading, std.proofs.Common.{◌≡◌, ◌<◌, ◌+◌, ◌^◌, drop}}
use Rattle.qr_parsing.proofs.svg.number_after.Given as goal

-- the number that the text begins with is read on from its first i digits, which have been read as `number`
abbrev pub invariant-loop-i : goal.invariant-loop-i
invariant-loop-i l = record {
  small : l.number < 10 ^ l.i;
  reads : leading 0 (drop l.at l.text) ≡ leading l.number (drop (l.at + l.i) l.text);
}
