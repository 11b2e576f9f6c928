-- The role of each module of a symbol of version `v` with `s` modules on a side. `true` is dark.
use Rattle.std.specs.Prelude.{ℕ, ◌-◌, ◌%◌, min, Bool, true, false, not, ◌&&◌, nat_lt, ◌==◌, if◌then◌else◌, Option, None, Some}
use Rattle.std.specs.List.{list_any}
use Rattle.std.specs.Option.{option_map_or}
use Rattle.qr_layout.specs.declared.role.Role.{Role}
use Rattle.qr_layout.specs.declared.role.Role.TheVariants.{Fixed, FormatBit, VersionBit, Region}
use Rattle.qr_layout.specs.Version.{side_of}
use Rattle.qr_layout.specs.Format.{format_bit_at, version_bit_at}
use Rattle.qr_layout.specs.Alignment.{centres_of, alignment_places}
use Rattle.qr_layout.specs.Region.{is_alignment, ring_of}

-- The number of the ring that contains the place, if square rings are drawn around the nearest centre of a finder
-- pattern. Ring 0 is this centre. The rings 0, 1 and 3 are dark, ring 2 is light, and ring 4 is the separator, which is
-- light too (ISO/IEC 18004:2015, 6.3.3)
abbrev pub finder_ring : ℕ → ℕ → ℕ → ℕ
finder_ring s r c = min (ring_of 3 3 r c) (min (ring_of 3 (s - 4) r c) (ring_of (s - 4) 3 r c))

-- The place is one of the eight around the centre of an alignment pattern. These are light, while the centre and the
-- outer ring are dark (ISO/IEC 18004:2015, 6.3.6)
unfoldable pub is_alignment_light : ℕ → ℕ → ℕ → Bool
is_alignment_light v r c = list_any (λ m. ring_of m.row m.col r c == 1) (alignment_places (side_of v) (centres_of v))

-- The colour of the module in row `r` and column `c` if it belongs to a finder pattern, a separator, a timing pattern
-- or an alignment pattern, and otherwise `None`. The timing pattern in row 6 is dark in even columns, and the one in
-- column 6 in even rows (ISO/IEC 18004:2015, 6.3.3 to 6.3.6)
unfoldable pub pattern_colour : ℕ → ℕ → ℕ → Option Bool
pattern_colour v r c =
    if nat_lt (finder_ring (side_of v) r c) 4 then Some (not (finder_ring (side_of v) r c == 2)) else
    (if finder_ring (side_of v) r c == 4 then Some false else
    (if r == 6 then Some (c % 2 == 0) else
    (if c == 6 then Some (r % 2 == 0) else
    (if is_alignment v r c then Some (not (is_alignment_light v r c)) else None))))

-- The place is that of the dark module, which is dark in each symbol but belongs to no pattern. It is beside the bottom
-- left finder pattern (ISO/IEC 18004:2015, 7.9.1)
abbrev pub is_dark_module : ℕ → ℕ → ℕ → Bool
is_dark_module s r c = r == s - 8 && c == 8

-- What the module in row `r` and column `c` contains. Outside the region this is a fixed colour, or a bit of the format
-- or version information. In the region it is a bit of a codeword or a remainder bit (ISO/IEC 18004:2015, 6.3 and
-- 7.7.2)
unfoldable pub role_of : ℕ → ℕ → ℕ → Role
role_of v r c =
    option_map_or Fixed (pattern_colour v r c)
    (if is_dark_module (side_of v) r c then Fixed true else
    option_map_or FormatBit (format_bit_at (side_of v) r c)
    (option_map_or VersionBit (version_bit_at v r c) Region))
