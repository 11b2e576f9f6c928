use Rattle.std.proofs.Common.{◌∙◌, arith, rules}
use Rattle.qrproved.proofs.lemmas.bits.{first-before, put-after, put-one, put-two, second-before}
use Rattle.qrproved.proofs.bits.put_eight.Goals as goal

pub returns-then-byte-len-clause-before : goal.returns-then-byte-len-clause-before
returns-then-byte-len-clause-before c = rw c.from.ensures (λ k l.
    second-before _ c.args.at _ k (omega arith)
    ∙ first-before c.args.bits.now c.args.at c.args.eight k (omega (arith, c.requires.room, c.requires.start)) (search rules) l)

pub returns-then-byte-len-clause-here : goal.returns-then-byte-len-clause-here
returns-then-byte-len-clause-here c = rw c.from.ensures (λ k l within.
    put-two c.args.bits.now c.args.at c.args.eight k (omega (arith, c.requires.room, c.if-byte-len.true)) (search rules) l c.requires.clear)

pub returns-then-byte-len-clause-after : goal.returns-then-byte-len-clause-after
returns-then-byte-len-clause-after c = rw c.from.ensures (λ k past l within.
    put-after c.args.bits.now c.args.at c.args.eight k (omega (arith, c.requires.room, c.if-byte-len.true)) past (omega arith))

pub returns-else-byte-len-clause-before : goal.returns-else-byte-len-clause-before
returns-else-byte-len-clause-before c = rw c.from.ensures (λ k l.
    first-before c.args.bits.now c.args.at c.args.eight k (omega (arith, c.requires.room, c.requires.start)) (search rules) l)

pub returns-else-byte-len-clause-here : goal.returns-else-byte-len-clause-here
returns-else-byte-len-clause-here c = rw c.from.ensures (λ k l within.
    put-one c.args.bits.now c.args.at c.args.eight k (omega (arith, c.requires.room, c.requires.start)) (search rules) c.requires.clear
    (omega (arith, c.if-byte-len.false, within)))
