-- What is read of a symbol with a logo. `g` is the square as it was read, and `h` the symbol without the logo.
use Rattle.std.specs.Prelude.{◌≡◌, ℕ, ◌+◌, ◌<◌, ◌≤◌, Bool, false, ◌&&◌, not, List}
use Rattle.std.specs.List.{count_by, list_any}
use Rattle.qr_layout.specs.declared.level.Level.{Level}
use Rattle.qr_layout.specs.declared.region.Module.{Module}
use Rattle.qr_layout.specs.Blocks.{blocks_of}
use Rattle.qr_layout.specs.Order.{IsOrder}
use Rattle.qr_matrix.specs.Difference.{differs}
use Rattle.qr_matrix.specs.Grid.{Grid, colour, light}
use Rattle.qr_bits.specs.Parsing.{Content}
use Rattle.qr_symbol.specs.Interleaving.{blocks_in}
use Rattle.qr_mending.specs.declared.erasures.Changes.{Changes}
use Rattle.qr_mending.specs.declared.format.FormatCopy.TheVariants.{First, Second}
use Rattle.qr_mending.specs.Format.{bit_differences, copy_bit}
use Rattle.qr_mending.specs.Mending.{IsMendedReading}
use Rattle.qr_mending.specs.Message.{modules_of, received, AreIndices}
use Rattle.qr_logos.specs.Logo.{is_covered, is_under}

-- Codeword `j` of the final sequence, counted from 0, has a module in which `g` and `h` differ, and no module under the
-- logo [own]
abbrev pub is_worn : ℕ → ℕ → Grid → Grid → List Module → ℕ → Bool
is_worn v k g h places j =
    list_any (λ m. differs g h m.row m.col) (modules_of places j) && not (is_covered v k places j)

-- The square `g` is the symbol `h` with a logo in any colours, and with further damage. In each block, at most `n`
-- codewords that have no module under the logo have a module in which `g` and `h` differ. `g` and `h` differ in at most
-- six of the 30 modules of format information. The other modules outside the region may have any colour [own]
pub record IsWorn (v : ℕ) (l : Level) (k n : ℕ) (g h : Grid) : Type 0 where
  pub side : g.side ≡ h.side
  pub format : bit_differences 15 (copy_bit First g) (copy_bit First h) + bit_differences 15 (copy_bit Second g) (copy_bit Second h) ≤ 6
  pub places : List Module
  pub order : IsOrder v places
  pub indices : List ℕ
  pub checks : List ℕ
  pub inside : AreIndices v l indices checks
  pub few : (i : ℕ) → i < blocks_in v l → count_by (is_worn v k g h places) (received (blocks_of v l) indices checks i) ≤ n

-- The square `g` is the symbol `h` with a logo in any colours: it has the side of `h`, and each module that is not under
-- the logo has the same colour as in `h` [own]
pub record IsUnderLogo (v k : ℕ) (g h : Grid) : Type 0 where
  pub side : g.side ≡ h.side
  pub beside : (r c : ℕ) → is_under v k r c ≡ false → colour g r c ≡ colour h r c

-- The square `g`, of which all modules were read, is mended and read as `content`, and it is not mended and read as
-- anything else [own]
pub record IsMendedOnlyAs (g : Grid) (v : ℕ) (l : Level) (mask : ℕ) (content : Content) : Type 0 where
  pub changed : List Changes
  pub reading : IsMendedReading (light g.side) g v l mask content changed
  pub only : (w : ℕ) (j : Level) (n : ℕ) (other : Content) (x : List Changes)
      → IsMendedReading (light g.side) g w j n other x → (w ≡ v) × (j ≡ l) × (n ≡ mask) × (other ≡ content)
