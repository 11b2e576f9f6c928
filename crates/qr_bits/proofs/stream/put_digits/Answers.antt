use Rattle.{qr_bits.proofs.lemmas.stream.WritingLemmas.{all-rest, digits-three}, std.proofs.{Common.{arith, append_assoc}, lemmas.List.take_rest}}
use Rattle.qr_bits.proofs.stream.put_digits.Goals as goal

pub loop-rest-preserved : goal.loop-rest-preserved
loop-rest-preserved c = record {
  whole = rw (take_rest c.loop-rest.rest.now 3) (search (arith, digits-three, append_assoc));
  digits = search (arith, take_rest, all-rest);
}
