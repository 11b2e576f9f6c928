-- The version that is chosen for the bytes `x` at level `l`, and the highest level from `l` on that has room for them
-- in this version. `rule` determines the allowed modes, and `i` how the bytes are to be interpreted.
use Rattle.std.specs.Prelude.{ℕ, ◌-◌, ◌<◌, ◌≤◌, List}
use Rattle.qr_layout.specs.declared.level.Level.{Level}
use Rattle.qr_layout.specs.declared.level.Level.TheVariants.{L, M, Q, H}
use Rattle.qr_bits.specs.declared.modes.Rule.{Rule}
use Rattle.qr_bits.specs.declared.interpretation.Interpretation.{Interpretation}
use Rattle.qr_bits.specs.Segmentation.{HasFit}
use Rattle.qr_bits.specs.Padding.{capacity_of}
use Rattle.qr_bits.specs.Interpretation.{interpretation_bits}

-- `x` fits a plain symbol of version `v` and level `l`: some valid assignment takes no more bits than the symbol's
-- capacity less the bits of the ECI header or FNC1 of the interpretation (ISO/IEC 18004:2015, 7.4.2, 7.4.8.2, 7.4.10,
-- Table 7)
abbrev pub FitsVersion : ℕ → Level → Rule → Interpretation → List ℕ → Type 0
FitsVersion v l rule i x = HasFit i v rule x (capacity_of v l - interpretation_bits i)

-- `v` is the least version, from `smallest` to 40, that `x` fits (ISO/IEC 18004:2015, 7.1)
pub record IsVersion (smallest : ℕ) (l : Level) (rule : Rule) (i : Interpretation) (x : List ℕ) (v : ℕ) : Type 0 where
  pub least : smallest ≤ v
  pub most : v ≤ 40
  pub fits : FitsVersion v l rule i x
  pub first : (u : ℕ) → smallest ≤ u → u < v → FitsVersion u l rule i x → ⊥

-- `x` fits no version from `smallest` to 40 (ISO/IEC 18004:2015, 7.1)
abbrev pub HasNoVersion : ℕ → Level → Rule → Interpretation → List ℕ → Type 0
HasNoVersion smallest l rule i x = (v : ℕ) → smallest ≤ v → v ≤ 40 → FitsVersion v l rule i x → ⊥

-- The rank of a level: of two levels, the one with the higher rank corrects more errors (ISO/IEC 18004:2015, 7.5.1)
abbrev pub level_rank : Level → ℕ
level_rank L = 0
level_rank M = 1
level_rank Q = 2
level_rank H = 3

-- `k` is the highest level, from `l` on, at which `x` fits version `v` [own]
pub record IsHighestLevel (v : ℕ) (l : Level) (rule : Rule) (i : Interpretation) (x : List ℕ) (k : Level) : Type 0 where
  pub least : level_rank l ≤ level_rank k
  pub fits : FitsVersion v k rule i x
  pub highest : (m : Level) → level_rank k < level_rank m → FitsVersion v m rule i x → ⊥
