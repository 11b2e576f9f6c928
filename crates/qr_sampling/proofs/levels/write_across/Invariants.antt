use Rattle.std.proofs.Common.{◌≡◌, ℕ, ◌/◌, ◌%◌, ◌<◌, get_or}
use Rattle.qr_sampling.specs.{Levels.across, Tables.IsTable}
use Rattle.qr_sampling.proofs.levels.write_across.Given as goal

abbrev pub invariant-loop-k : goal.invariant-loop-k
invariant-loop-k l = (f : ℕ → ℕ → ℕ) → IsTable l.side f l.values → (j : ℕ) → j < l.k → get_or l.sums j 0 ≡ across l.side f (j % l.side) (j / l.side)
