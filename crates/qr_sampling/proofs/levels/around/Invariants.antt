use Rattle.std.proofs.Common.{◌≡◌, ◌+◌, ◌*◌, ◌≤◌, get_or}
use Rattle.qr_sampling.specs.Sums.{sum_below}
use Rattle.qr_sampling.proofs.levels.around.Given as goal

abbrev pub invariant-loop-j : goal.invariant-loop-j
invariant-loop-j l = (l.sum ≡ sum_below l.j (λ j. get_or l.sums ((l.first + j) * l.side + l.column) 0)) × (l.sum ≤ 65535 * l.j)
