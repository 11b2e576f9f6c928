use Rattle.std.proofs.{Common.{rules, arith, append_assoc}, lemmas.List.take_rest}
use Rattle.qr_bits.{specs.Stream.character_bits, proofs.lemmas.stream.WritingLemmas.all-rest}
use Rattle.qr_bits.proofs.stream.put_characters.Goals as goal

pub loop-rest-preserved : goal.loop-rest-preserved
unfolding character_bits
loop-rest-preserved c = record {
  whole = rw (take_rest c.loop-rest.rest.now 2) (search (rules, append_assoc));
  characters = search (arith, take_rest, all-rest);
}
