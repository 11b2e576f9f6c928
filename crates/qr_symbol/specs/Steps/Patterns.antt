-- The colours of modules outside the region after each step of drawing. `format` is the format information as a number,
-- and `version` the version information as a number.
use Rattle.std.specs.Prelude.{◌≡◌, ◌<◌, ℕ, ◌+◌, ◌&&◌, nat_le, nat_lt, if◌then◌else◌, Bool, false}
use Rattle.qr_layout.specs.declared.role.Role.{Role}
use Rattle.qr_layout.specs.declared.role.Role.TheVariants.{Fixed, FormatBit, VersionBit, Region}
use Rattle.qr_layout.specs.Format.{version_word_of}
use Rattle.qr_layout.specs.Role.{role_of}
use Rattle.qr_matrix.specs.BitRow.{has_bit}
use Rattle.qr_matrix.specs.Grid.{Grid, colour, IsSquare}

-- The colour of a module that has the given role. The role of a function pattern or of the dark module states the
-- colour. A module of format or version information has the colour of its bit in the number `format` or `version`. A
-- module of the region counts as light.
unfoldable pub fixed_colour : ℕ → ℕ → Role → Bool
fixed_colour format version (Fixed dark) = dark
fixed_colour format version (FormatBit i) = has_bit format i
fixed_colour format version (VersionBit i) = has_bit version i
fixed_colour format version Region = false

-- The colour of the module in row `r` and column `c` of version `v`, if the format information is the number `format`.
-- A module of the region counts as light.
abbrev pub paint_of : ℕ → ℕ → ℕ → ℕ → Bool
paint_of v format r c = fixed_colour format (version_word_of v) (role_of v r c)

-- The square `g` has the side `s`. It has the colours `paint` at the places for which `test` is true, and the colours
-- `other` at all other places.
pub record IsOver (s : ℕ) (test paint other : ℕ → ℕ → Bool) (g : Grid) : Type 0 where
  pub square : IsSquare s g
  pub colours : (r c : ℕ) → r < s → c < s → colour g r c ≡ (if test r c then paint r c else other r c)

-- The place in row `r` and column `c` is in the square of eight by eight modules whose top left module is in row `top`
-- and column `left`. In three corners of a symbol, such a square consists of a finder pattern and its separator.
abbrev pub is_in_finder_area : ℕ → ℕ → ℕ → ℕ → Bool
is_in_finder_area top left r c = nat_le top r && nat_lt r (top + 8) && nat_le left c && nat_lt c (left + 8)

-- The format information in which only bit 7 is 1. With it, exchanging rows and columns of a symbol changes no colour
-- outside the region: the dark module changes places with a module of bit 7, which is dark too.
abbrev pub symmetric_format : ℕ
symmetric_format = 128

-- The colour of a module with the given role after the format information, the number `format`, was drawn. `other` is
-- its colour before. Only a module that contains a bit of the format information changes its colour.
unfoldable pub format_or : ℕ → Role → Bool → Bool
format_or format (Fixed dark) other = other
format_or format (FormatBit i) other = has_bit format i
format_or format (VersionBit i) other = other
format_or format Region other = other
