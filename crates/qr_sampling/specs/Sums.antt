-- Sums over the numbers from 0 to `n - 1`.
use Rattle.std.specs.Prelude.{ℕ, ◌+◌}
use Prim.Native.Nat.{zero, suc}

-- The sum `f (n - 1) + .. + f 0` [own]
abbrev pub sum_below : ℕ → (ℕ → ℕ) → ℕ
sum_below zero f = 0
sum_below (suc n) f = f n + sum_below n f
