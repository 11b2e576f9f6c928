use Rattle.std.proofs.Common.{◌≡◌, ◌+◌, ◌*◌, ◌≤◌, slice_index_or}
use Rattle.qr_sampling.specs.Sums.{sum_below}
use Rattle.qr_scanning.specs.Reading.{is_wrong_timing}
use Rattle.qr_scanning.proofs.reading.wrong_timing.Given as goal

-- the modules before the current one are counted
abbrev pub invariant-loop-i : goal.invariant-loop-i
invariant-loop-i l =
    (l.wrong ≡ sum_below l.i (λ i. is_wrong_timing (slice_index_or l.modules (6 * l.side + (8 + i)) 0) (8 + i)
    + is_wrong_timing (slice_index_or l.modules ((8 + i) * l.side + 6) 0) (8 + i)))
    × (l.wrong ≤ 2 * l.i)
