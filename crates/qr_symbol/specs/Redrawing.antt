-- A symbol that is drawn once more under another mask. `from` is its square before, and `g` its square after.
use Rattle.std.specs.Prelude.{◌≡◌, ℕ, List}
use Rattle.qr_layout.specs.declared.level.Level.{Level}
use Rattle.qr_matrix.specs.Grid.{Grid}
use Rattle.qr_symbol.specs.Reading.{IsFormat, IsOfVersion, IsRead}
use Rattle.qr_symbol.specs.Symbol.{grid_of}

-- The side and the format information of `from` state a version, a level and a mask, and `codewords` are read from `from`
-- with this mask undone. `g` is the square of the symbol of the same version, level and codewords under the mask `mask`
-- (ISO/IEC 18004:2015, 7.8, 12)
pub record IsRedrawn (from : Grid) (mask : ℕ) (g : Grid) : Type 0 where
  pub version : ℕ
  pub level : Level
  pub former : ℕ
  pub codewords : List ℕ
  pub sized : IsOfVersion from version
  pub format : IsFormat from level former
  pub read : IsRead version former from codewords
  pub drawn : g ≡ grid_of version level mask codewords
