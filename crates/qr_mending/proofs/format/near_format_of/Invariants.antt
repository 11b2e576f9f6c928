use Rattle.{qr_layout.specs.declared.level.Level.TheVariants.{L, M, Q, H}, qr_matrix.specs.Grid.Grid}
use Rattle.{qr_mending.specs.{Format.IsNearFormat, Steps.Format.AreBitsOf, declared.format.FormatCopy.FormatCopy}, std.proofs.Common.{ℕ, ◌<◌, [], ◌∷◌, get_or}}
use Rattle.qr_mending.proofs.format.near_format_of.Given as goal

abbrev pub invariant-loop-level : goal.invariant-loop-level
invariant-loop-level l = (u g : Grid) (copy : FormatCopy) → AreBitsOf u copy g l.bits → (k : ℕ) → k < l.level-index → (mask : ℕ) →
    IsNearFormat u copy g (get_or (L ∷ M ∷ Q ∷ H ∷ []) k L) mask → ⊥
