use Rattle.std.proofs.Common.{◌≡◌, ℕ, ◌/◌, ◌%◌, ◌<◌, get_or}
use Rattle.qr_sampling.specs.{Levels.mark, Tables.IsTable}
use Rattle.qr_sampling.proofs.levels.write_marks.Given as goal

abbrev pub invariant-loop-k : goal.invariant-loop-k
invariant-loop-k l = (f : ℕ → ℕ → ℕ) → IsTable l.side f l.values → (j : ℕ) → j < l.k → get_or l.marks j 0 ≡ mark (f (j % l.side) (j / l.side))
