use Rattle.{qr_bits.proofs.lemmas.{modes.pairs-step, parsing.PayloadLemmas.{group-read, fails}}, std.proofs.Common.{◌-◌, ◌/◌, ◌%◌, [], ◌∷◌, arith, rules}}
use Rattle.qr_bits.proofs.parsing.kanji.Goals as goal

pub returns-then-value-gt-LOW_MAX : goal.returns-then-value-gt-LOW_MAX
returns-then-value-gt-LOW_MAX c =
    search (rules, fails, pairs-step c.loop-left.left (c.loop-left.left - 1) c.loop-left.reader (omega (arith, c.loop-left-test.true)))

pub loop-left-preserved : goal.loop-left-preserved
loop-left-preserved c =
    let g = c.take-value.ensures in
    let s = pairs-step c.loop-left.left (c.loop-left.left - 1) c.loop-left.reader (omega (arith, c.loop-left-test.true)) in
    group-read 13 (c.kanji_pair-pair.result / 256 ∷ c.kanji_pair-pair.result % 256 ∷ []) c.loop-left.invariant s.0 g.rest c.in_ok-extend_from_slice.ensures.items
    (search rules)
