use Rattle.{std.proofs.Common.{◌≡◌, drop}, qr_mending.specs.Steps.Roots.rooted}
use Rattle.qr_mending.proofs.roots.with_roots.Given as goal

abbrev pub invariant-loop-i : goal.invariant-loop-i
invariant-loop-i l = l.product.items ≡ rooted (drop l.i l.erased) l.polynomial
