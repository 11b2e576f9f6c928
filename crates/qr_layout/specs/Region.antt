-- The region of a symbol of version `v` with `s` modules on a side. The standard's encoding region also has the places
-- of the format and version information; here they are outside. `r` is the row of a place, and `c` its column.
use Rattle.std.specs.Prelude.{◌≡◌, ℕ, ◌-◌, Bool, true, max, not, ◌&&◌, ◌||◌, ◌==◌, nat_lt, nat_le}
use Rattle.std.specs.Int.{abs_diff}
use Rattle.std.specs.List.{list_any}
use Rattle.qr_layout.specs.declared.region.Module.{Module}
use Rattle.qr_layout.specs.Version.{side_of}
use Rattle.qr_layout.specs.Alignment.{centres_of, alignment_places}

-- The place is in one of the three corners with a finder pattern. A corner has the pattern, its separator, and the
-- format information beside the separator; the bottom left corner also has the dark module. The top left corner has 9
-- rows and 9 columns, the top right one 9 rows and 8 columns, and the bottom left one 8 rows and 9 columns (ISO/IEC
-- 18004:2015, 6.3.3, 6.3.4, 7.9)
abbrev pub is_corner : ℕ → ℕ → ℕ → Bool
is_corner s r c = nat_le r 8 && (nat_le c 8 || nat_le (s - 8) c) || nat_le (s - 8) r && nat_le c 8

-- The place is in row 6 or column 6, where the timing patterns are (ISO/IEC 18004:2015, 6.3.5)
abbrev pub is_timing : ℕ → ℕ → Bool
is_timing r c = r == 6 || c == 6

-- The place is in the copy of the version information beside the top right finder pattern. This copy is in the first
-- six rows and in three columns, `s - 11` to `s - 9` (ISO/IEC 18004:2015, 7.10)
abbrev pub is_version_copy : ℕ → ℕ → ℕ → Bool
is_version_copy s r c = nat_lt r 6 && (nat_le (s - 11) c && nat_lt c (s - 8))

-- The place is in one of the two copies of the version information, which symbols have from version 7 on. One copy is
-- the other with rows and columns exchanged (ISO/IEC 18004:2015, 7.10)
abbrev pub is_version_information : ℕ → ℕ → ℕ → Bool
is_version_information v r c = nat_le 7 v && (is_version_copy (side_of v) r c || is_version_copy (side_of v) c r)

-- The number of the ring that contains the place (r, c), if square rings are drawn around the place (a, b). Ring 0 is
-- (a, b) itself, ring 1 the eight places around it, and so on [own]
abbrev pub ring_of : ℕ → ℕ → ℕ → ℕ → ℕ
ring_of a b r c = max (abs_diff a r) (abs_diff b c)

-- The place is in an alignment pattern: in ring 0, 1 or 2 around one of the centres (ISO/IEC 18004:2015, 6.3.6)
abbrev pub is_alignment : ℕ → ℕ → ℕ → Bool
is_alignment v r c = list_any (λ m. nat_le (ring_of m.row m.col r c) 2) (alignment_places (side_of v) (centres_of v))

-- The place is in the region: inside the symbol, but not in a corner with a finder pattern, a timing pattern, the
-- version information or an alignment pattern (ISO/IEC 18004:2015, 6.3.7, 7.7.3)
unfoldable pub is_in_region : ℕ → ℕ → ℕ → Bool
is_in_region v r c =
    nat_lt r (side_of v) && nat_lt c (side_of v)
    && not (is_corner (side_of v) r c || is_timing r c || is_version_information v r c || is_alignment v r c)

-- The place `m` is in the region (ISO/IEC 18004:2015, 6.3.7, 7.7.3)
abbrev pub InRegion : ℕ → Module → Type 0
InRegion v m = is_in_region v m.row m.col ≡ true
