use Rattle.std.proofs.Common.{◌≡◌, ◌<◌, ◌≤◌, true, false, ℕ, get_or}
use Rattle.qrproved.proofs.mending.are_modules.Given as goal

-- the bytes before the current one are at most 2, or one of them is more
abbrev pub invariant-loop-module : goal.invariant-loop-module
invariant-loop-module l = record {
  each : l.are_modules ≡ true → (k x : ℕ) → k < l.module-index → get_or l.modules k x ≤ 2;
  one : l.are_modules ≡ false → (k : ℕ) × (k < l.module-index) × ((x : ℕ) → 2 < get_or l.modules k x);
}
