use Rattle.{std.proofs.Common.{◌≡◌, drop}, qr_mending.specs.Steps.Sums.dot_of}
use Rattle.qr_mending.proofs.sums.dot.Given as goal

abbrev pub invariant-loop-j : goal.invariant-loop-j
invariant-loop-j l = l.sum ≡ dot_of (drop l.j l.terms) (drop l.j l.factors)
