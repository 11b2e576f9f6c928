use Rattle.{qr_bits.specs.{Modes.{in_twos, is_kanji_pair}, Stream.kanji_bits}, std.proofs.Common.{◌≡◌, ◌++◌, true, length}}
use Rattle.qr_bits.proofs.stream.put_kanji.Given as goal

-- what is written and what is left are the whole
abbrev pub invariant-loop-rest : goal.invariant-loop-rest
invariant-loop-rest l = record {
  whole : l.writer ++ kanji_bits l.rest ≡ l.initial.writer ++ kanji_bits l.bytes;
  pairs : in_twos is_kanji_pair l.rest ≡ true;
}

abbrev pub decreases-loop-rest : goal.decreases-loop-rest
decreases-loop-rest l = length l.rest
