use Rattle.{std.proofs.Common.{◌≡◌, ◌++◌, take, drop}, qr_mending.specs.Steps.{Sums.eval, Roots.quotient}}
use Rattle.qr_mending.proofs.errors.divide.Given as goal

abbrev pub invariant-loop-j : goal.invariant-loop-j
invariant-loop-j l = record {
  terms : l.terms ≡ take l.j l.initial.terms ++ quotient l.root (drop l.j l.initial.terms);
  carried : l.carried ≡ eval l.root (drop l.j l.initial.terms);
  quotient_at_root : l.quotient_at_root ≡ eval l.root (quotient l.root (drop l.j l.initial.terms));
}
