-- Damaged squares, and squares `g` and `h` that differ in few modules, such as a damaged and an undamaged symbol. `places`
-- is the order of the modules of the region.
use Rattle.std.specs.Prelude.{ℕ, ◌+◌, ◌<◌, ◌≤◌, List}
use Rattle.std.specs.List.{AllZip, count_by, sum_by}
use Rattle.qr_layout.specs.declared.level.Level.{Level}
use Rattle.qr_layout.specs.declared.region.Module.{Module}
use Rattle.qr_layout.specs.Blocks.{blocks_of, correctable_of}
use Rattle.qr_layout.specs.Order.{IsOrder}
use Rattle.qr_matrix.specs.Difference.{differs}
use Rattle.qr_matrix.specs.Grid.{Grid, light}
use Rattle.qr_symbol.specs.Interleaving.{blocks_in}
use Rattle.qr_symbol.specs.Reading.{IsFormat, IsMessage, IsOfVersion}
use Rattle.qr_mending.specs.declared.erasures.Changes.{Changes}
use Rattle.qr_mending.specs.declared.format.FormatCopy.TheVariants.{First, Second}
use Rattle.qr_mending.specs.Format.{bit_differences, copy_bit}
use Rattle.qr_mending.specs.Mending.{IsDamagedForm}
use Rattle.qr_mending.specs.Message.{modules_of, received, AreIndices}

-- In how many of the eight modules of codeword `k` the squares `g` and `h` differ. Codewords are counted from 0 in the
-- final sequence (ISO/IEC 18004:2015, 7.7.3)
abbrev pub codeword_differences : Grid → Grid → List Module → ℕ → ℕ
codeword_differences g h places k = count_by (λ m. differs g h m.row m.col) (modules_of places k)

-- The squares `g` and `h` differ in at most six of the 30 modules of format information. In each block, the number of
-- modules in which `g` and `h` differ is at most the number of misread codewords that can be corrected in this block
-- (ISO/IEC 18004:2015, 7.5.1, 7.9.1)
pub record DifferInFewModules (v : ℕ) (l : Level) (g h : Grid) : Type 0 where
  pub format : bit_differences 15 (copy_bit First g) (copy_bit First h) + bit_differences 15 (copy_bit Second g) (copy_bit Second h) ≤ 6
  pub places : List Module
  pub order : IsOrder v places
  pub indices : List ℕ
  pub checks : List ℕ
  pub inside : AreIndices v l indices checks
  pub few : (i : ℕ) → i < blocks_in v l
      → sum_by (codeword_differences g h places) (received (blocks_of v l) indices checks i) ≤ correctable_of v l

-- The square `damaged`, of which all modules were read, is a damaged form of the square `whole`. The level, the mask
-- and the data codewords of `whole` can be read without mending (ISO/IEC 18004:2015, 7.5.1, 7.9.1, 12)
pub record IsDamagedSquare (damaged whole : Grid) : Type 0 where
  pub version : ℕ
  pub level : Level
  pub mask : ℕ
  pub message : List ℕ
  pub changed : List Changes
  pub sized : IsOfVersion whole version
  pub format : IsFormat whole level mask
  pub holds : IsMessage version level mask whole message
  pub form : IsDamagedForm (light damaged.side) damaged version level mask message changed

-- There are as many squares in `damaged` as in `whole`, and each square of `damaged` is a damaged form of the square of
-- `whole` at the same index [own]
unfoldable pub AreDamagedSquares : List Grid → List Grid → Type 0
AreDamagedSquares damaged whole = AllZip IsDamagedSquare damaged whole
