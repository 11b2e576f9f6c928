use Rattle.std.proofs.Common.{◌≡◌, ℕ, ◌/◌, ◌%◌, ◌<◌, get_or}
use Rattle.qr_sampling.specs.{Sampling.sharpened, Tables.IsTable}
use Rattle.qr_sampling.proofs.means.write_sharpened.Given as goal

abbrev pub invariant-loop-k : goal.invariant-loop-k
invariant-loop-k l = (f : ℕ → ℕ → ℕ) → IsTable l.side f l.values → (j : ℕ) → j < l.k → get_or l.sharp j 0 ≡ sharpened l.side f (j % l.side) (j / l.side)
