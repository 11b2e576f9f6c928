use Rattle.{qr_symbol.specs.Reading.IsFormat, std.proofs.Common.{ℕ, ◌<◌}}
use Rattle.qr_symbol.proofs.reading.mask_of.Given as goal

abbrev pub invariant-loop-mask : goal.invariant-loop-mask
invariant-loop-mask l = (k : ℕ) → k < l.mask → IsFormat l.matrix l.level k → ⊥
