-- A copy of the format information as numbers.
use Rattle.std.specs.Prelude.{◌≡◌, ℕ, ◌<◌}
use Rattle.qr_matrix.specs.{BitRow.{has_bit}, Grid.{Grid}}
use Rattle.qr_mending.specs.declared.format.{CopyBits.{CopyBits}, FormatCopy.{FormatCopy}}
use Rattle.qr_mending.specs.Format.{copy_bit}

-- `bits` says which modules of the copy are dark in `g`, and which were not read. Bit i stands for the module that
-- shows bit i of the format information, where bit 0 is the lowest.
pub record AreBitsOf (unknown : Grid) (copy : FormatCopy) (g : Grid) (bits : CopyBits) : Type 0 where
  pub dark : (i : ℕ) → i < 15 → has_bit bits.dark i ≡ copy_bit copy g i
  pub unread : (i : ℕ) → i < 15 → has_bit bits.unread i ≡ copy_bit copy unknown i
