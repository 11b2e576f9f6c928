use Rattle.std.proofs.Common.{◌≡◌, ◌+◌, ◌-◌, ◌*◌, ◌≤◌}
use Rattle.qr_sampling.specs.{Brightness.{brightness, shown}, Sums.sum_below}
use Rattle.qr_sampling.proofs.means.row_sum.Given as goal

abbrev pub invariant-loop-i : goal.invariant-loop-i
invariant-loop-i l =
    (l.sum ≡ sum_below l.i (λ i. brightness (shown l.picture) (l.x + 16 * i - (16 * l.reach + 8)) l.y)) × (l.sum ≤ 255 * l.i)
