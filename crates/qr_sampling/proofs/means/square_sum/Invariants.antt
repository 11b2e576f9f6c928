use Rattle.std.proofs.Common.{◌≡◌, ◌+◌, ◌-◌, ◌*◌, ◌≤◌}
use Rattle.qr_sampling.specs.{Brightness.shown, Sampling.row_sum, Sums.sum_below}
use Rattle.qr_sampling.proofs.means.square_sum.Given as goal

abbrev pub invariant-loop-j : goal.invariant-loop-j
invariant-loop-j l =
    (l.sum ≡ sum_below l.j (λ j. row_sum (shown l.picture) l.reach l.x (l.y + 16 * j - (16 * l.reach + 8))))
    × (l.sum ≤ 255 * (2 * l.reach + 1) * l.j)
