use Rattle.std.proofs.Common.{◌≡◌, ℕ, ◌/◌, ◌%◌, ◌<◌, get_or}
use Rattle.qr_sampling.specs.{Brightness.shown, Sampling.mean_at}
use Rattle.qr_sampling.proofs.means.write_means.Given as goal

abbrev pub invariant-loop-k : goal.invariant-loop-k
invariant-loop-k l = (j : ℕ) → j < l.k → get_or l.means j 0 ≡ mean_at (shown l.picture) l.map l.reach (j % l.side) (j / l.side)
