use Rattle.{qr_bits.specs.{Modes.is_digit, Stream.digit_bits}, std.{proofs.Common.{◌≡◌, ◌++◌, true, length}, specs.List.list_all}}
use Rattle.qr_bits.proofs.stream.put_digits.Given as goal

-- what is written and what is left are the whole
abbrev pub invariant-loop-rest : goal.invariant-loop-rest
invariant-loop-rest l = record {
  whole : l.writer ++ digit_bits l.rest ≡ l.initial.writer ++ digit_bits l.digits;
  digits : list_all is_digit l.rest ≡ true;
}

abbrev pub decreases-loop-rest : goal.decreases-loop-rest
decreases-loop-rest l = length l.rest
