use Rattle.std.proofs.Common.{◌≡◌, ℕ, ◌/◌, ◌%◌, ◌<◌, get_or}
use Rattle.qr_sampling.specs.{Sampling.placed, Steps.AreSums, Tables.IsTable}
use Rattle.qr_sampling.proofs.levels.write_modules.Given as goal

abbrev pub invariant-loop-k : goal.invariant-loop-k
invariant-loop-k l = (f : ℕ → ℕ → ℕ) → IsTable l.how.side f l.values → AreSums l.how.side f l.sums.all.now l.sums.light.now l.sums.count.now
    → (j : ℕ) → j < l.k → get_or l.modules j 0 ≡ placed l.how f (j % l.how.side) (j / l.how.side)
