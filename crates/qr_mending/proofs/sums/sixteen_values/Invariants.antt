use Rattle.{qr_field.specs.{Galois.product, Polynomial.power}, qr_mending.specs.Steps.{Sums.eval, Values.sum_at}}
use Rattle.std.proofs.Common.{◌≡◌, ◌+◌, ◌*◌, ◌<◌, ℕ, drop}
use Rattle.qr_mending.proofs.sums.sixteen_values.Given as goal

abbrev pub invariant-loop-j : goal.invariant-loop-j
invariant-loop-j l = (i : ℕ) → i < 16 →
    sum_at i l.sums ≡ product (power ((l.first + i) * l.j)) (eval (power (l.first + i)) (drop l.j l.terms))
