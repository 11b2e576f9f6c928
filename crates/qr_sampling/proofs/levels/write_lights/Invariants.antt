use Rattle.std.proofs.Common.{◌≡◌, ℕ, ◌/◌, ◌%◌, ◌<◌, get_or}
use Rattle.qr_sampling.specs.{Levels.{across, light_of}, Tables.IsTable}
use Rattle.qr_sampling.proofs.levels.write_lights.Given as goal

abbrev pub invariant-loop-k : goal.invariant-loop-k
invariant-loop-k l = (f : ℕ → ℕ → ℕ) → IsTable l.side f l.values → IsTable l.side (across l.side f) l.sums → (j : ℕ) → j < l.k
    → get_or l.lights j 0 ≡ light_of l.side f (j % l.side) (j / l.side)
