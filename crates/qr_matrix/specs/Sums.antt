-- Sums and counts over the numbers from 0 to `n - 1`, and over the places of a square of side `s`.
use Rattle.std.specs.Prelude.{ℕ, ◌+◌, ◌&&◌, Bool, true, if◌then◌else◌}
use Prim.Native.Nat.{zero, suc}

-- The sum `f (n - 1) + .. + f 0` [own]
abbrev pub sum_below : ℕ → (ℕ → ℕ) → ℕ
sum_below zero f = 0
sum_below (suc n) f = f n + sum_below n f

-- The number of `k` below `n` for which `p k` is true [own]
abbrev pub count_below : ℕ → (ℕ → Bool) → ℕ
count_below n p = sum_below n (λ k. if p k then 1 else 0)

-- `p k` is true for every `k` below `n` [own]
abbrev pub all_below : ℕ → (ℕ → Bool) → Bool
all_below zero p = true
all_below (suc n) p = p n && all_below n p

-- The number of places of a square of side `s` for which `p r c` is true, where `r` is the row of the place and `c` its
-- column [own]
unfoldable pub places_passing : ℕ → (ℕ → ℕ → Bool) → ℕ
places_passing s p = sum_below s (λ r. count_below s (p r))
