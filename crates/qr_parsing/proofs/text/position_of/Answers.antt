use Rattle.std.proofs.{Common.{rules, eq-eqb, eqb, sym, arith}, lemmas.List.Sums.position_or_len_is}
use Rattle.qr_parsing.proofs.text.position_of.Goals as goal

pub returns-then-byte-sign : goal.returns-then-byte-sign
returns-then-byte-sign c = search (rules, position_or_len_is, eq-eqb)

pub returns : goal.returns
returns c =
    sym (position_or_len_is (λ byte. eqb byte c.args.sign) c.args.bytes.now _ 0 (omega arith) (λ k lt. c.loop-i.invariant k (omega arith)) (λ lt. absurd (omega arith)))
