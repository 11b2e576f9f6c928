use Rattle.{qr_bits.specs.{Modes.is_alphanumeric, Stream.character_bits}, std.{proofs.Common.{◌≡◌, ◌++◌, true, length}, specs.List.list_all}}
use Rattle.qr_bits.proofs.stream.put_characters.Given as goal

-- what is written and what is left are the whole
abbrev pub invariant-loop-rest : goal.invariant-loop-rest
invariant-loop-rest l = record {
  whole : l.writer ++ character_bits l.rest ≡ l.initial.writer ++ character_bits l.characters;
  characters : list_all is_alphanumeric l.rest ≡ true;
}

abbrev pub decreases-loop-rest : goal.decreases-loop-rest
decreases-loop-rest l = length l.rest
