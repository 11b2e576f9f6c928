use Rattle.{std.proofs.Common.{◌≡◌, ◌++◌, take}, qr_field.specs.Polynomial.{plus, scaled, zeros}}
use Rattle.qr_mending.proofs.polynomial.Polynomial.add.Given as goal

abbrev pub invariant-loop-j : goal.invariant-loop-j
invariant-loop-j l = record {
  degree : l.self.degree ≡ l.initial.self.degree;
  sum : l.self.terms ≡ plus (scaled l.factor (zeros l.shift ++ take l.j l.other.terms)) l.initial.self.terms;
}
