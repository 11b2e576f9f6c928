use Rattle.std.proofs.Common.{◌≡◌, ◌<◌, ◌≤◌, ◌*◌, ◌/◌, ◌%◌, arith, rules}
use Rattle.qr_pictures.specs.{Steps.{back, sampled}, Turns.turned}
use Rattle.qr_pictures.proofs.lemmas.laws.{byte-at-most, square-written}
use Rattle.qr_pictures.proofs.clean.write_modules.Goals as goal

pub returns-clause-square : goal.returns-clause-square
returns-clause-square c = λ g k. square-written c.args.picture.now c.args.square.now g c.loop-i.modules k (λ i l.
    let lt : i < c.loop-i.i = first_of (search rules, grind arith) in c.loop-i.invariant.written i lt)

pub returns-clause-bits : goal.returns-clause-bits
returns-clause-bits c = λ i l.
    let s = c.args.square.now in
    let lt : i < c.loop-i.i = first_of (search rules, grind arith) in
    byte-at-most _ (turned (back s.turn) s.frame.side (sampled c.args.picture.now s.frame) (i / s.frame.side) (i % s.frame.side)) (c.loop-i.invariant.written i lt)

pub returns-clause-others : goal.returns-clause-others
returns-clause-others c = λ i l. let le : c.loop-i.i ≤ i = first_of (search rules, grind arith) in c.loop-i.invariant.others i le
