use Rattle.{std.proofs.Common.{◌≡◌, ◌++◌, length, take, drop}, qr_field.specs.Steps.Polynomial.carried}
use Rattle.qr_field.proofs.polynomial.multiply.Given as goal

abbrev pub invariant-loop-coefficient : goal.invariant-loop-coefficient
invariant-loop-coefficient l = record {
  long : length l.coefficient-items ≡ length l.fn.coefficients.items;
  carried : take l.coefficient-index l.coefficient-items ++ carried l.before (drop l.coefficient-index l.coefficient-items) l.root ≡ carried 1 l.fn.coefficients.items l.root;
}
