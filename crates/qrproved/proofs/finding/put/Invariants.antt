use Rattle.std.proofs.Common.{◌≡◌, ◌⊎◌, ◌+◌, ◌<◌, ◌≤◌, ℕ, length, get_or}
use Rattle.qrproved.proofs.finding.put.Given as goal

-- the bytes before the current one are written
abbrev pub invariant-loop-i : goal.invariant-loop-i
invariant-loop-i l = record {
  long : length l.out ≡ length l.fn.out;
  written : (j : ℕ) → j < l.i → get_or l.out (l.start + j) 0 ≡ get_or l.bytes j 0;
  others : (j : ℕ) → (j < l.start) ⊎ (l.start + l.i ≤ j) → get_or l.out j 0 ≡ get_or l.fn.out j 0;
}
