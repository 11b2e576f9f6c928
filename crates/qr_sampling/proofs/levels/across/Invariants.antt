use Rattle.std.proofs.Common.{◌≡◌, ◌+◌, ◌*◌, ◌≤◌, get_or}
use Rattle.qr_sampling.specs.Sums.{sum_below}
use Rattle.qr_sampling.proofs.levels.across.Given as goal

abbrev pub invariant-loop-i : goal.invariant-loop-i
invariant-loop-i l = (l.sum ≡ sum_below l.i (λ i. get_or l.values (l.row * l.side + (l.first + i)) 0)) × (l.sum ≤ 255 * l.i)
