-- The mask that is chosen for the symbol of version `v` and level `l` that contains the codewords `cw`.
use Rattle.std.specs.Prelude.{◌≡◌, ℕ, ◌<◌, ◌≤◌, ◌⊎◌, List}
use Rattle.qr_layout.specs.declared.level.Level.{Level}
use Rattle.qr_layout.specs.Version.{side_of}
use Rattle.qr_matrix.specs.Grid.{colour}
use Rattle.qr_symbol.specs.Symbol.{grid_of}
use Rattle.qr_matrix.specs.Penalty.{penalty_of}

-- Of the numbers below `n`, `m` is the one at which `f` has the least value, and the smallest such number if there are
-- several [own]
pub record IsFirstLeast (n : ℕ) (f : ℕ → ℕ) (m : ℕ) : Type 0 where
  pub in_range : m < n
  pub least : (k : ℕ) → k < n → (f m < f k) ⊎ ((f m ≡ f k) × (m ≤ k))

-- The penalty of the whole symbol of version `v` and level `l` that contains the codewords `cw`, under the mask `mask`
-- (ISO/IEC 18004:2015, 7.8.3)
abbrev pub mask_penalty : ℕ → Level → List ℕ → ℕ → ℕ
mask_penalty v l cw mask = penalty_of (side_of v) (colour (grid_of v l mask cw))

-- `mask` is the number, from 0 to 7, of the mask under which the symbol has the least penalty, and the smallest such
-- number if there are several (ISO/IEC 18004:2015, 7.8.3; among equals [own])
abbrev pub IsMask : ℕ → Level → List ℕ → ℕ → Type 0
IsMask v l cw mask = IsFirstLeast 8 (mask_penalty v l cw) mask
