use Rattle.std.proofs.Common.{◌≡◌, ℕ, ◌<◌, length, get_or, true}
use Rattle.qr_mending.specs.declared.erasures.Changes.{Changes}
use Rattle.qr_scanning.specs.Reading.{is_checked}
use Rattle.qr_scanning.proofs.reading.are_checked.Given as goal

-- the blocks before the current one are checked
abbrev pub invariant-loop-k : goal.invariant-loop-k
invariant-loop-k l = (n : ℕ) (d : Changes) → n < l.k → n < length l.changed → is_checked l.spare (get_or l.changed n d) ≡ true
