use Rattle.{qr_parsing.specs.Steps.Svg.{numbers_after, numbers_in}, std.proofs.Common.{◌≡◌, ◌≤◌, false, length}}
use Rattle.qr_parsing.proofs.svg.next_number.Given as goal

-- the numbers of the text are those that are read from the rest, if the digits before the rest are read as `number`
abbrev pub invariant-bytes : goal.invariant-bytes
invariant-bytes l = record {
  small : l.number ≤ 99999;
  none : l.inside ≡ false → l.number ≡ 0;
  within : length l.rest ≤ length l.text;
  numbers : numbers_in l.text ≡ numbers_after l.number l.inside l.rest;
}

abbrev pub decreases-bytes : goal.decreases-bytes
decreases-bytes l = length l.rest
