use Rattle.{std.proofs.Common.{ℕ, ◌<◌}, qr_matrix.specs.Grid.Grid}
use Rattle.qr_mending.specs.{declared.format.FormatCopy.FormatCopy, Format.IsNearFormat, Steps.Format.AreBitsOf}
use Rattle.qr_mending.proofs.format.near_mask_of.Given as goal

abbrev pub invariant-loop-mask : goal.invariant-loop-mask
invariant-loop-mask l = (u g : Grid) (copy : FormatCopy) → AreBitsOf u copy g l.bits → (k : ℕ) → k < l.mask → IsNearFormat u copy g l.level k → ⊥
