use Rattle.{std.proofs.Common.{◌≡◌, ◌+◌, ◌++◌, length, take}, qr_field.specs.Polynomial.zeros}
use Rattle.qr_mending.proofs.polynomial.Polynomial.shifted.Given as goal

abbrev pub invariant-loop-k : goal.invariant-loop-k
invariant-loop-k l = record {
  count : length l.terms ≡ 16;
  terms : take (l.count + l.k) l.terms ≡ zeros l.count ++ take l.k l.self.terms;
}
