use Rattle.{std.proofs.Common.take, qr_field.specs.Steps.Register.{IsHeld, value_of}}
use Rattle.qr_field.proofs.divisor.Divisor.finished.Given as goal

abbrev pub invariant-loop-index : goal.invariant-loop-index
invariant-loop-index l = IsHeld (take l.index l.message) l.self (value_of l.register)
