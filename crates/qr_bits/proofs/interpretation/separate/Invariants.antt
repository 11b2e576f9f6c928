use Rattle.{std.proofs.Common.{◌≡◌, ◌++◌, length}, qr_bits.specs.Interpretation.{separated}}
use Rattle.qr_bits.proofs.interpretation.separate.Given as goal

-- what is written and what is left are the whole
abbrev pub invariant-loop-rest : goal.invariant-loop-rest
invariant-loop-rest l = l.out.items ++ separated l.rest ≡ l.initial.out.items ++ separated l.characters

abbrev pub decreases-loop-rest : goal.decreases-loop-rest
decreases-loop-rest l = length l.rest
