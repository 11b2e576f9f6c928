use Rattle.{qr_bits.proofs.lemmas.parsing.PayloadLemmas.{digits-step, group-read, fails}, std.proofs.Common.{◌-◌, [], ◌∷◌, arith, rules}}
use Rattle.qr_bits.proofs.parsing.digits.Goals as goal

pub returns-then-group-ge-THREE_DIGITS_LIMIT : goal.returns-then-group-ge-THREE_DIGITS_LIMIT
returns-then-group-ge-THREE_DIGITS_LIMIT c =
    search (rules, fails, digits-step c.loop-left.left (c.loop-left.left - 3) c.loop-left.reader (omega (arith, c.loop-left-test.true)))

pub loop-left-preserved : goal.loop-left-preserved
loop-left-preserved c =
    let g = c.take-group.ensures in
    let s = digits-step c.loop-left.left (c.loop-left.left - 3) c.loop-left.reader (omega (arith, c.loop-left-test.true)) in
    group-read 10 (c.digit.result ∷ c.digit-in-loop-left.result ∷ c.digit-in-loop-left-2.result ∷ [])
    c.loop-left.invariant s.0 g.rest c.in_ok-extend_from_slice.ensures.items
    (search rules)
