use Rattle.std.proofs.Common.{◌≡◌, ℕ, ◌/◌, ◌%◌, ◌<◌, length, get_or}
use Rattle.qr_sampling.specs.Tables.{entry}
use Rattle.qr_scanning.proofs.clean.exchanged.Given as goal

-- the modules before the current one are written
abbrev pub invariant-loop-k : goal.invariant-loop-k
invariant-loop-k l = record {
  long : length l.all.items ≡ l.k;
  written : (j : ℕ) → j < l.k → get_or l.all.items j 0 ≡ entry l.n l.modules (j / l.n) (j % l.n);
}
