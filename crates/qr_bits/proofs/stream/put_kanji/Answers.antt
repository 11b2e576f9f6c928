use Rattle.std.proofs.{Common.{rules, append_assoc, sym, ◌∙◌}, lemmas.{Bool.and_parts, List.take_rest}}
use Rattle.qr_bits.{specs.{Stream.kanji_bits, Modes.is_kanji_pair}, proofs.lemmas.stream.WritingLemmas.in_twos-step}
use Rattle.qr_bits.proofs.stream.put_kanji.Goals as goal

pub loop-rest-preserved : goal.loop-rest-preserved
unfolding kanji_bits
loop-rest-preserved c = record {
  whole = rw (take_rest c.loop-rest.rest.now 2) (search (rules, append_assoc));
  pairs = rw (take_rest c.loop-rest.rest.now 2)
      (and_parts _ _ (sym (in_twos-step is_kanji_pair _ c.in-len2-up.len_at_least) ∙ c.loop-rest.invariant.pairs)).1;
}
