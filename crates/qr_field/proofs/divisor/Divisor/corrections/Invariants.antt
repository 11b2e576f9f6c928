use Rattle.{std.proofs.Common.take, qr_field.specs.Steps.Register.{IsHeld, value_of}}
use Rattle.qr_field.proofs.divisor.Divisor.corrections.Given as goal

abbrev pub invariant-loop-index : goal.invariant-loop-index
invariant-loop-index l = IsHeld (take l.index l.first) l.self (value_of l.left) × IsHeld (take l.index l.second) l.self (value_of l.right)
