use Rattle.{qrproved.proofs.lemmas.drawing.{no-more, one-more}, std.proofs.{Common.{rules, ◌≡◌, ◌-◌, ◌+◌, suc, length-drop, arith}, Math.Nat.suc-mul}}
use Rattle.qrproved.proofs.drawing.squares_of.Goals as goal

pub loop-preserved : goal.loop-preserved
loop-preserved c =
    let n = c.args.count - (c.loop.counter + 1) in
    let next : c.args.count - c.loop.counter ≡ suc n = omega arith in
    search (rules, length-drop, suc-mul, one-more)

pub returns : goal.returns
returns c = search (rules, no-more)
