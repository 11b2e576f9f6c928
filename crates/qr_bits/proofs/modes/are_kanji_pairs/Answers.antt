use Rattle.{qr_bits.{proofs.lemmas.stream.WritingLemmas.in_twos-step, specs.Modes.is_kanji_pair}, std.proofs.{Common.{sym, ◌∙◌}, lemmas.List.take_rest}}
use Rattle.qr_bits.proofs.modes.are_kanji_pairs.Goals as goal

pub loop-rest-preserved : goal.loop-rest-preserved
loop-rest-preserved c =
    rw (take_rest c.loop-rest.rest.now 2) (sym (rw (sym c.is_kanji_pair.ensures ∙ c.if-not-is_kanji_pair.false) at (in_twos-step is_kanji_pair _ c.in-len2-up.len_at_least)) ∙ c.loop-rest.invariant)
