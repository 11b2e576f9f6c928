use Rattle.{std.proofs.Common.{◌≡◌, ◌++◌, length}, qr_bits.specs.Folding.folded_around_pairs}
use Rattle.qr_bits.proofs.folding.fold_around_pairs.Given as goal

-- what is folded and what is left are the whole
abbrev pub invariant-loop-rest : goal.invariant-loop-rest
invariant-loop-rest l = l.folded.items ++ folded_around_pairs l.rest ≡ folded_around_pairs l.input

abbrev pub decreases-loop-rest : goal.decreases-loop-rest
decreases-loop-rest l = length l.rest
