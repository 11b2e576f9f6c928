-- How the format information of a damaged symbol is read. `g` is the square of modules as it was read, and `unknown` is
-- dark where a module was not read. In the undamaged symbol both copies show `word`, which is the format information of
-- level `l` and mask `mask`.
use Rattle.std.specs.Prelude.{ℕ, ◌+◌, ◌*◌, ◌<◌, ◌≤◌, ◌&&◌, not, Bool, true, false}
use Prim.Native.Nat.{zero, suc}
use Rattle.qr_layout.specs.declared.level.Level.{Level}
use Rattle.qr_layout.specs.Format.{format_word_of}
use Rattle.qr_layout.specs.declared.region.Module.{Module}
use Rattle.qr_layout.specs.Format.{first_place, second_place}
use Rattle.qr_matrix.specs.Grid.{Grid, colour, is_same}
use Rattle.qr_matrix.specs.Sums.{count_below}
use Rattle.qr_matrix.specs.BitRow.{has_bit}
use Rattle.qr_mending.specs.declared.format.FormatCopy.{FormatCopy}
use Rattle.qr_mending.specs.declared.format.FormatCopy.TheVariants.{First, Second}

-- The place of the module that shows bit `i` in a copy of the format information, if the symbol has `s` modules on a
-- side. Bit 0 is the lowest. The first copy is beside the top left finder pattern, and the second beside the other two
-- (ISO/IEC 18004:2015, 7.9.1)
abbrev pub copy_place : FormatCopy → ℕ → ℕ → Module
copy_place First s i = first_place i
copy_place Second s i = second_place s i

-- Bit `i` of the format information as a copy in the square `g` shows it, where bit 0 is the lowest (ISO/IEC
-- 18004:2015, 7.9.1)
abbrev pub copy_bit : FormatCopy → Grid → ℕ → Bool
copy_bit copy g i = colour g (copy_place copy g.side i).row (copy_place copy g.side i).col

-- How many of the 15 modules of a copy were not read (ISO/IEC 18004:2015, 7.9.1)
abbrev pub unread_bits : Grid → FormatCopy → ℕ
unread_bits unknown copy = count_below 15 (copy_bit copy unknown)

-- How many of the 15 modules of a copy are misread, if `word` is the format information of the undamaged symbol.
-- Modules that were not read do not count (ISO/IEC 18004:2015, 7.9.1)
abbrev pub misread_bits : Grid → FormatCopy → Grid → (word : ℕ) → ℕ
misread_bits unknown copy g word = count_below 15 (λ i. not (copy_bit copy unknown i) && not (is_same (copy_bit copy g i) (has_bit word i)))

-- The cost of a copy with level `l` and mask `mask`: 1 for each module that was not read, and 2 for each misread one,
-- since nothing shows which modules are misread [own]
abbrev pub copy_cost : Grid → FormatCopy → Grid → Level → ℕ → ℕ
copy_cost unknown copy g l mask = unread_bits unknown copy + 2 * misread_bits unknown copy g (format_word_of l mask)

-- The sum of the costs of both copies with level `l` and mask `mask` [own]
abbrev pub format_cost : Grid → Grid → Level → ℕ → ℕ
format_cost unknown g l mask = copy_cost unknown First g l mask + copy_cost unknown Second g l mask

-- The level `l` and the mask `mask` are near to the copy: the copy costs at most 6 with them, where each module that
-- was not read costs 1 and each misread one 2. At most one pair of level and mask is near to a copy, since the format
-- information of two pairs differs in at least seven bits (ISO/IEC 18004:2015, 7.9.1, Annex C)
pub record IsNearFormat (unknown : Grid) (copy : FormatCopy) (g : Grid) (l : Level) (mask : ℕ) : Type 0 where
  pub in_range : mask < 8
  pub near : copy_cost unknown copy g l mask ≤ 6

-- 1 if two bits differ, and 0 otherwise [own]
abbrev pub bit_difference : Bool → Bool → ℕ
bit_difference true true = 0
bit_difference true false = 1
bit_difference false true = 1
bit_difference false false = 0

-- How many of the bits 0 to `n - 1` differ between `p` and `q`, which is their Hamming distance [own]
abbrev pub bit_differences : ℕ → (ℕ → Bool) → (ℕ → Bool) → ℕ
bit_differences zero p q = 0
bit_differences (suc n) p q = bit_difference (p n) (q n) + bit_differences n p q
