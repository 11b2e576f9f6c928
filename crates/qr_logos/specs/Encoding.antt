-- The symbol of the bytes `x` that may have a logo of `k` by `k` modules. What is asked of the symbol: its least version
-- `smallest`, its lowest level `lowest`, and `share`, the most that the logo may use up of the codewords that can be
-- corrected, in percent. `rule` determines the allowed modes, and `i` how the bytes are to be interpreted.
use Rattle.std.specs.Prelude.{ℕ, ◌≤◌, List}
use Rattle.qr_layout.specs.declared.level.Level.{Level}
use Rattle.qr_bits.specs.declared.modes.Rule.{Rule}
use Rattle.qr_bits.specs.declared.interpretation.Interpretation.{Interpretation}
use Rattle.qr_matrix.specs.Grid.{Grid}
use Rattle.qr_symbol.specs.Encoding.{IsSymbol}
use Rattle.qr_symbol.specs.VersionChoice.{FitsVersion, level_rank}
use Rattle.qr_logos.specs.Logo.{IsAllowed}

-- The version `v` and the level `l` are such as are asked for, `x` fits a symbol of them, and a logo of `k` by `k`
-- modules is allowed in it [own]
pub record MayCarry (smallest : ℕ) (lowest : Level) (rule : Rule) (i : Interpretation) (x : List ℕ) (share k v : ℕ) (l : Level) : Type 0 where
  pub least : smallest ≤ v
  pub most : v ≤ 40
  pub level : level_rank lowest ≤ level_rank l
  pub fits : FitsVersion v l rule i x
  pub allowed : IsAllowed v l share k

-- `v` is the least version for which there is such a level, and `l` is the highest such level of this version [own]
pub record IsLogoSize (smallest : ℕ) (lowest : Level) (rule : Rule) (i : Interpretation) (x : List ℕ) (share k v : ℕ) (l : Level) : Type 0 where
  pub carries : MayCarry smallest lowest rule i x share k v l
  pub first : (u : ℕ) (m : Level) → MayCarry smallest lowest rule i x share k u m → v ≤ u
  pub highest : (m : Level) → MayCarry smallest lowest rule i x share k v m → level_rank m ≤ level_rank l

-- `g` is the square of the symbol that `encode` makes of `x` with exactly this version and level, and `mask` is its mask
-- [own]
pub record IsLogoSymbol (smallest : ℕ) (lowest : Level) (rule : Rule) (i : Interpretation) (x : List ℕ) (share k v : ℕ) (l : Level) (mask : ℕ) (g : Grid) : Type 0 where
  pub size : IsLogoSize smallest lowest rule i x share k v l
  pub symbol : IsSymbol v l rule i x v mask g

-- The largest logo that is allowed in a symbol of `x`, of all versions and levels that are asked for and that `x` fits,
-- has `n` by `n` modules [own]
pub record IsLargestCarried (smallest : ℕ) (lowest : Level) (rule : Rule) (i : Interpretation) (x : List ℕ) (share n : ℕ) : Type 0 where
  pub version : ℕ
  pub level : Level
  pub carries : MayCarry smallest lowest rule i x share n version level
  pub largest : (other u : ℕ) (m : Level) → MayCarry smallest lowest rule i x share other u m → other ≤ n
