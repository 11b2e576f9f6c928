use Rattle.{qr_field.specs.Steps.Polynomial.value_at, qr_mending.specs.Steps.Values.sum_at, std.proofs.Common.{◌≡◌, ◌+◌, ◌<◌, ℕ, drop}}
use Rattle.qr_mending.proofs.sums.sixteen_syndromes.Given as goal

abbrev pub invariant-loop-j : goal.invariant-loop-j
invariant-loop-j l = (i : ℕ) → i < 16 → sum_at i l.sums ≡ value_at (l.first + i) (drop l.j l.remainder)
