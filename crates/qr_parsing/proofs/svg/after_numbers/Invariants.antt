use Rattle.{qr_parsing.specs.Steps.Svg.numbers_in, std.proofs.Common.{◌≡◌, drop}}
use Rattle.qr_parsing.proofs.svg.after_numbers.Given as goal

-- the numbers of the rest are those of the text without the first `counter`
abbrev pub invariant-loop : goal.invariant-loop
invariant-loop l = numbers_in l.rest ≡ drop l.counter (numbers_in l.text)
