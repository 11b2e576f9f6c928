use Rattle.qr_parsing.specs.Steps.Svg.{numbers_after, numbers_in}
use Rattle.std.proofs.{Common.{rules, ◌∙◌, ap, sym, length, arith}, lemmas.List.{drop_all, drop-drop, length-drop}}
use Rattle.qr_parsing.proofs.svg.after_numbers.Goals as goal

pub returns-in_default : goal.returns-in_default
unfolding numbers_after
returns-in_default c =
    let all = numbers_in c.args.text.now in
    sym (drop_all c.args.count all (omega (arith, ap length (sym c.loop.invariant ∙ c.in_default.ensures.reads), length-drop c.loop.counter all)))

pub loop-preserved : goal.loop-preserved
loop-preserved c = (search rules) ∙ drop-drop 1 c.loop.counter (numbers_in c.args.text.now)
