-- The colour of each module of the symbol of version `v` and level `l` that contains the codewords `cw` under a mask.
use Rattle.std.specs.Prelude.{ℕ, Bool, List}
use Rattle.qr_layout.specs.declared.level.Level.{Level}
use Rattle.qr_layout.specs.declared.role.Role.{Role}
use Rattle.qr_layout.specs.declared.role.Role.TheVariants.{Fixed, FormatBit, VersionBit, Region}
use Rattle.qr_layout.specs.Version.{side_of}
use Rattle.qr_layout.specs.Format.{format_word_of, version_word_of}
use Rattle.qr_layout.specs.Order.{index_of}
use Rattle.qr_layout.specs.Role.{role_of}
use Rattle.qr_bits.specs.Bits.{codeword_bit}
use Rattle.qr_matrix.specs.BitRow.{has_bit}
use Rattle.qr_matrix.specs.Grid.{Grid, square}
use Rattle.qr_symbol.specs.Mask.{inverts, inverted}

-- The colour of the module in row `r` and column `c`, if it has the given role. A module of a function pattern and the
-- dark module have the colour that the role states. A module of format or version information shows its bit in this
-- information. A module of the region shows its codeword bit, or is light if it comes after the modules of all
-- codewords; if the mask inverts the module, dark and light are exchanged (ISO/IEC 18004:2015, 7.7.2, 7.7.3, 7.8.1,
-- 7.9.1, 7.10)
abbrev pub colour_by : ℕ → Level → ℕ → List ℕ → ℕ → ℕ → Role → Bool
colour_by v l mask cw r c (Fixed dark) = dark
colour_by v l mask cw r c (FormatBit i) = has_bit (format_word_of l mask) i
colour_by v l mask cw r c (VersionBit i) = has_bit (version_word_of v) i
colour_by v l mask cw r c Region = inverted (inverts mask r c) (codeword_bit cw (index_of v (record { row = r; col = c })))

-- The colour of the module in row `r` and column `c`, in the symbol that contains the codewords `cw` under the mask
-- `mask` (ISO/IEC 18004:2015, 7.7.2, 7.7.3, 7.8.1, 7.9.1, 7.10)
unfoldable pub colour_of : ℕ → Level → ℕ → List ℕ → ℕ → ℕ → Bool
colour_of v l mask cw r c = colour_by v l mask cw r c (role_of v r c)

-- The square of the symbol that contains the codewords `cw` under the mask `mask`, without the quiet zone (ISO/IEC
-- 18004:2015, 7.7, 7.8)
abbrev pub grid_of : ℕ → Level → ℕ → List ℕ → Grid
grid_of v l mask cw = square (side_of v) (colour_of v l mask cw)
