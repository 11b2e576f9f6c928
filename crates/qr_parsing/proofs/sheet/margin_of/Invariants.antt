use Rattle.{qr_parsing.specs.Steps.Sheet.is_dark_on, std.proofs.Common.{◌≡◌, ℕ, ◌<◌, false}}
use Rattle.qr_parsing.proofs.sheet.margin_of.Given as goal

-- the modules of the diagonal before the current one are light
abbrev pub invariant-loop-i : goal.invariant-loop-i
invariant-loop-i l = (k : ℕ) → k < l.i → is_dark_on l.sheet.kind l.sheet.width l.sheet.bytes.now 0 k k ≡ false
