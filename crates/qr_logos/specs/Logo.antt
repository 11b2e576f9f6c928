-- A logo: a square of `k` by `k` modules in the middle of a symbol of version `v`. `r` is the row of a place, and `c` its
-- column. `places` is the order of the modules of the region.
use Rattle.std.specs.Prelude.{◌≡◌, ℕ, ◌+◌, ◌-◌, ◌*◌, ◌/◌, ◌<◌, ◌≤◌, Bool, true, false, ◌&&◌, ◌||◌, nat_le, nat_lt, List}
use Rattle.std.specs.List.{count_by, list_any}
use Rattle.qr_layout.specs.declared.level.Level.{Level}
use Rattle.qr_layout.specs.declared.region.Module.{Module}
use Rattle.qr_layout.specs.Blocks.{blocks_of, correctable_of}
use Rattle.qr_layout.specs.Order.{IsOrder}
use Rattle.qr_layout.specs.Region.{is_corner, is_timing, is_version_information}
use Rattle.qr_layout.specs.Version.{side_of}
use Rattle.qr_symbol.specs.Interleaving.{blocks_in}
use Rattle.qr_mending.specs.Message.{modules_of, received, AreIndices}

-- The first row of the logo, which is also its first column. A symbol has an odd number of modules on a side. So if `k`
-- is even, the logo is half a module above the middle and half a module to the left of it [own]
abbrev pub first_of : ℕ → ℕ → ℕ
first_of v k = (side_of v - k) / 2

-- The logo has modules in the row with the number `i`, and so also in the column with this number [own]
abbrev pub is_crossed : ℕ → ℕ → ℕ → Bool
is_crossed v k i = nat_le (first_of v k) i && nat_lt i (first_of v k + k)

-- The module in row `r` and column `c` is under the logo [own]
abbrev pub is_under : ℕ → ℕ → ℕ → ℕ → Bool
is_under v k r c = is_crossed v k r && is_crossed v k c

-- No module of a finder pattern, its separator, a timing pattern, the format information or the version information is
-- under the logo. Modules of alignment patterns may be under it [own]
abbrev pub IsClear : ℕ → ℕ → Type 0
IsClear v k = (r c : ℕ) → is_under v k r c ≡ true
    → (is_corner (side_of v) r c || is_timing r c || is_version_information v r c) ≡ false

-- A module of codeword `j` of the final sequence, counted from 0, is under the logo [own]
abbrev pub is_covered : ℕ → ℕ → List Module → ℕ → Bool
is_covered v k places j = list_any (λ m. is_under v k m.row m.col) (modules_of places j)

-- How many codewords of block `i`, counted from 0, have a module under the logo. `indices` lists, block by block, the
-- indices that the data codewords have in the final sequence, and `checks` lists those of the error correction codewords
-- [own]
abbrev pub covered_in : ℕ → Level → ℕ → List Module → (indices checks : List ℕ) → ℕ → ℕ
covered_in v l k places indices checks i = count_by (is_covered v k places) (received (blocks_of v l) indices checks i)

-- At level `l`, some block has `n` codewords with a module under the logo, and no block has more [own]
pub record IsMostCovered (v : ℕ) (l : Level) (k n : ℕ) : Type 0 where
  pub places : List Module
  pub order : IsOrder v places
  pub indices : List ℕ
  pub checks : List ℕ
  pub inside : AreIndices v l indices checks
  pub most : (i : ℕ) → i < blocks_in v l → covered_in v l k places indices checks i ≤ n
  pub block : ℕ
  pub block_in : block < blocks_in v l
  pub reached : covered_in v l k places indices checks block ≡ n

-- A logo of `k` by `k` modules is allowed. It leaves the patterns and the information that `IsClear` names uncovered. In
-- each block, the codewords with a module under the logo are at most `share` percent of the misread codewords that can
-- be corrected [own]
pub record IsAllowed (v : ℕ) (l : Level) (share k : ℕ) : Type 0 where
  pub clear : IsClear v k
  pub covered : ℕ
  pub most : IsMostCovered v l k covered
  pub within : 100 * covered ≤ share * correctable_of v l

-- The largest logo that is allowed has `k` by `k` modules [own]
pub record IsLargestLogo (v : ℕ) (l : Level) (share k : ℕ) : Type 0 where
  pub allowed : IsAllowed v l share k
  pub largest : (other : ℕ) → IsAllowed v l share other → other ≤ k
