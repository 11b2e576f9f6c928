use Rattle.{qr_layout.specs.declared.level.Level.TheVariants.{L, M, Q, H}, qr_symbol.specs.Reading.IsFormat, std.proofs.Common.{ℕ, ◌<◌, [], ◌∷◌, get_or}}
use Rattle.qr_symbol.proofs.reading.format_of.Given as goal

abbrev pub invariant-loop-level : goal.invariant-loop-level
invariant-loop-level l = (k : ℕ) → k < l.level-index → (mask : ℕ) → IsFormat l.matrix (get_or (L ∷ M ∷ Q ∷ H ∷ []) k L) mask → ⊥
