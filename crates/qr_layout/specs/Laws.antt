-- Values that the standard prints, or that follow from its rules; the laws compare the definitions with them. `v` is a
-- version.
use Rattle.std.specs.Prelude.{ℕ, ◌+◌, ◌-◌, ◌*◌, ◌^◌, ◌/◌, ◌==◌, true, false, nat_lt, if◌then◌else◌, List, [], ◌∷◌, length, map}
use Rattle.std.specs.List.{range_with_len, slice_index_or}
use Rattle.qr_layout.specs.declared.level.Level.{Level}
use Rattle.qr_layout.specs.declared.level.Level.TheVariants.{L, M, Q, H}
use Rattle.qr_layout.specs.declared.role.Role.{Role}
use Rattle.qr_layout.specs.declared.role.Role.TheVariants.{Fixed, FormatBit, VersionBit, Region}
use Rattle.qr_layout.specs.Version.{side_of}
use Rattle.qr_layout.specs.Blocks.{protection_of}
use Rattle.qr_layout.specs.Alignment.{centres_of}

-- The versions 1 to 40 [own]
abbrev pub all_versions : List ℕ
all_versions = range_with_len 1 40

-- For each level, the numbers of data codewords that the standard prints for the versions 1 to 40 (ISO/IEC 18004:2015,
-- 7.4.10, Table 7)
abbrev pub printed_data : Level → List ℕ
printed_data L = 19 ∷ 34 ∷ 55 ∷ 80 ∷ 108 ∷ 136 ∷ 156 ∷ 194 ∷ 232 ∷ 274 ∷ 324 ∷ 370 ∷ 428 ∷ 461 ∷ 523 ∷ 589 ∷ 647 ∷ 721 ∷ 795 ∷ 861 ∷ 932 ∷ 1006 ∷ 1094 ∷ 1174 ∷ 1276 ∷ 1370 ∷ 1468 ∷ 1531 ∷ 1631 ∷ 1735 ∷ 1843 ∷ 1955 ∷ 2071 ∷ 2191 ∷ 2306 ∷ 2434 ∷ 2566 ∷ 2702 ∷ 2812 ∷ 2956 ∷ []
printed_data M = 16 ∷ 28 ∷ 44 ∷ 64 ∷ 86 ∷ 108 ∷ 124 ∷ 154 ∷ 182 ∷ 216 ∷ 254 ∷ 290 ∷ 334 ∷ 365 ∷ 415 ∷ 453 ∷ 507 ∷ 563 ∷ 627 ∷ 669 ∷ 714 ∷ 782 ∷ 860 ∷ 914 ∷ 1000 ∷ 1062 ∷ 1128 ∷ 1193 ∷ 1267 ∷ 1373 ∷ 1455 ∷ 1541 ∷ 1631 ∷ 1725 ∷ 1812 ∷ 1914 ∷ 1992 ∷ 2102 ∷ 2216 ∷ 2334 ∷ []
printed_data Q = 13 ∷ 22 ∷ 34 ∷ 48 ∷ 62 ∷ 76 ∷ 88 ∷ 110 ∷ 132 ∷ 154 ∷ 180 ∷ 206 ∷ 244 ∷ 261 ∷ 295 ∷ 325 ∷ 367 ∷ 397 ∷ 445 ∷ 485 ∷ 512 ∷ 568 ∷ 614 ∷ 664 ∷ 718 ∷ 754 ∷ 808 ∷ 871 ∷ 911 ∷ 985 ∷ 1033 ∷ 1115 ∷ 1171 ∷ 1231 ∷ 1286 ∷ 1354 ∷ 1426 ∷ 1502 ∷ 1582 ∷ 1666 ∷ []
printed_data H = 9 ∷ 16 ∷ 26 ∷ 36 ∷ 46 ∷ 60 ∷ 66 ∷ 86 ∷ 100 ∷ 122 ∷ 140 ∷ 158 ∷ 180 ∷ 197 ∷ 223 ∷ 253 ∷ 283 ∷ 313 ∷ 341 ∷ 385 ∷ 406 ∷ 442 ∷ 464 ∷ 514 ∷ 538 ∷ 596 ∷ 628 ∷ 661 ∷ 701 ∷ 745 ∷ 793 ∷ 845 ∷ 901 ∷ 961 ∷ 986 ∷ 1054 ∷ 1096 ∷ 1142 ∷ 1222 ∷ 1276 ∷ []

-- For each level, how many misread codewords can be corrected in a block, as the standard prints it for the versions 1
-- to 40 (ISO/IEC 18004:2015, 7.5.1, Table 9)
abbrev pub printed_errors : Level → List ℕ
printed_errors L = 2 ∷ 4 ∷ 7 ∷ 10 ∷ 13 ∷ 9 ∷ 10 ∷ 12 ∷ 15 ∷ 9 ∷ 10 ∷ 12 ∷ 13 ∷ 15 ∷ 11 ∷ 12 ∷ 14 ∷ 15 ∷ 14 ∷ 14 ∷ 14 ∷ 14 ∷ 15 ∷ 15 ∷ 13 ∷ 14 ∷ 15 ∷ 15 ∷ 15 ∷ 15 ∷ 15 ∷ 15 ∷ 15 ∷ 15 ∷ 15 ∷ 15 ∷ 15 ∷ 15 ∷ 15 ∷ 15 ∷ []
printed_errors M = 4 ∷ 8 ∷ 13 ∷ 9 ∷ 12 ∷ 8 ∷ 9 ∷ 11 ∷ 11 ∷ 13 ∷ 15 ∷ 11 ∷ 11 ∷ 12 ∷ 12 ∷ 14 ∷ 14 ∷ 13 ∷ 13 ∷ 13 ∷ 13 ∷ 14 ∷ 14 ∷ 14 ∷ 14 ∷ 14 ∷ 14 ∷ 14 ∷ 14 ∷ 14 ∷ 14 ∷ 14 ∷ 14 ∷ 14 ∷ 14 ∷ 14 ∷ 14 ∷ 14 ∷ 14 ∷ 14 ∷ []
printed_errors Q = 6 ∷ 11 ∷ 9 ∷ 13 ∷ 9 ∷ 12 ∷ 9 ∷ 11 ∷ 10 ∷ 12 ∷ 14 ∷ 13 ∷ 12 ∷ 10 ∷ 15 ∷ 12 ∷ 14 ∷ 14 ∷ 13 ∷ 15 ∷ 14 ∷ 15 ∷ 15 ∷ 15 ∷ 15 ∷ 14 ∷ 15 ∷ 15 ∷ 15 ∷ 15 ∷ 15 ∷ 15 ∷ 15 ∷ 15 ∷ 15 ∷ 15 ∷ 15 ∷ 15 ∷ 15 ∷ 15 ∷ []
printed_errors H = 8 ∷ 14 ∷ 11 ∷ 8 ∷ 11 ∷ 14 ∷ 13 ∷ 13 ∷ 12 ∷ 14 ∷ 12 ∷ 14 ∷ 11 ∷ 12 ∷ 12 ∷ 15 ∷ 14 ∷ 14 ∷ 13 ∷ 14 ∷ 15 ∷ 12 ∷ 15 ∷ 15 ∷ 15 ∷ 15 ∷ 15 ∷ 15 ∷ 15 ∷ 15 ∷ 15 ∷ 15 ∷ 15 ∷ 15 ∷ 15 ∷ 15 ∷ 15 ∷ 15 ∷ 15 ∷ 15 ∷ []

-- The number of error correction codewords in a block, computed from the number of misread codewords that the standard
-- says can be corrected. Each misread codeword uses up two error correction codewords, and the remaining ones, those
-- for misdecode protection, only detect errors (ISO/IEC 18004:2015, 7.5.1, Table 9)
abbrev pub printed_correction : Level → ℕ → ℕ
printed_correction l v = 2 * slice_index_or (printed_errors l) (v - 1) 0 + protection_of v l

-- The distance, in modules, between neighbouring rows of centres of alignment patterns, from the second such row on.
-- There are `k` rows of centres in all. The distance is the least even number that, multiplied by `k - 1`, is at least
-- the distance from row 6 to the last row of centres. Version 32 is an exception, in which it is 26 (ISO/IEC
-- 18004:2015, Annex E)
abbrev pub gap_between : ℕ → ℕ → ℕ
gap_between v k = if v == 32 then 26 else 2 * ((side_of v - 13 + 2 * (k - 1) - 1) / (2 * (k - 1)))

-- The numbers of the rows of centres of alignment patterns in version `v`, which is at least 2, computed without the
-- standard's table. The first is row 6. The others are at equal distances (`gap_between`), and the last of them has the
-- number `side_of v - 7` (ISO/IEC 18004:2015, Annex E)
abbrev pub spaced_centres : ℕ → List ℕ
spaced_centres v = 6 ∷ map (λ i. side_of v - 7 - gap_between v (v / 7 + 2) * (v / 7 - i)) (range_with_len 0 (v / 7 + 1))

-- How many modules belong to an alignment pattern but not to a timing pattern, if there are `k` rows of centres; if `k`
-- is at least 2, there are `k ^ 2 - 3` alignment patterns of 25 modules each. Of these patterns `2 * (k - 2)` lie
-- across a timing pattern, and each of them shares five modules with it (ISO/IEC 18004:2015, 6.3.5, 6.3.6)
abbrev pub alignment_size : ℕ → ℕ
alignment_size k = if nat_lt k 2 then 0 else 25 * (k ^ 2 - 3) - 10 * (k - 2)

-- How many modules the version information has: two copies of 18 modules each, from version 7 on (ISO/IEC 18004:2015,
-- 7.10)
abbrev pub version_size : ℕ → ℕ
version_size v = if nat_lt v 7 then 0 else 36

-- How many modules the region has. From the number of all modules of the symbol the numbers of four kinds are
-- subtracted: the modules of the three corners with a finder pattern (81, 72 and 72, together 225), those of the two
-- timing patterns between the corners, those of the alignment patterns outside the timing patterns, and those of the
-- version information (ISO/IEC 18004:2015, 6.3.7, 7.7.3)
abbrev pub region_size : ℕ → ℕ
region_size v =
    side_of v ^ 2 - 225 - 2 * (side_of v - 17) - alignment_size (length (centres_of v)) - version_size v

-- The role of a module that is dark in every symbol of its version [own]
abbrev always_dark : Role
always_dark = Fixed true

-- The role of a module that is light in every symbol of its version [own]
abbrev always_light : Role
always_light = Fixed false

-- The roles of the modules in row 8 of version 1, from left to right (ISO/IEC 18004:2015, 7.9.1)
abbrev pub row_8 : List Role
row_8 = FormatBit 14 ∷ FormatBit 13 ∷ FormatBit 12 ∷ FormatBit 11 ∷ FormatBit 10 ∷ FormatBit 9 ∷ always_dark ∷ FormatBit 8 ∷ FormatBit 7 ∷ Region ∷ Region ∷ Region ∷ Region ∷ FormatBit 7 ∷ FormatBit 6 ∷ FormatBit 5 ∷ FormatBit 4 ∷ FormatBit 3 ∷ FormatBit 2 ∷ FormatBit 1 ∷ FormatBit 0 ∷ []

-- The roles of the modules in column 8 of version 1, from top to bottom (ISO/IEC 18004:2015, 7.9.1)
abbrev pub column_8 : List Role
column_8 = FormatBit 0 ∷ FormatBit 1 ∷ FormatBit 2 ∷ FormatBit 3 ∷ FormatBit 4 ∷ FormatBit 5 ∷ always_dark ∷ FormatBit 6 ∷ FormatBit 7 ∷ Region ∷ Region ∷ Region ∷ Region ∷ always_dark ∷ FormatBit 8 ∷ FormatBit 9 ∷ FormatBit 10 ∷ FormatBit 11 ∷ FormatBit 12 ∷ FormatBit 13 ∷ FormatBit 14 ∷ []

-- The roles of the modules in row 6 of version 1, from left to right (ISO/IEC 18004:2015, 6.3.3 to 6.3.5)
abbrev pub row_6 : List Role
row_6 = always_dark ∷ always_dark ∷ always_dark ∷ always_dark ∷ always_dark ∷ always_dark ∷ always_dark ∷ always_light ∷ always_dark ∷ always_light ∷ always_dark ∷ always_light ∷ always_dark ∷ always_light ∷ always_dark ∷ always_dark ∷ always_dark ∷ always_dark ∷ always_dark ∷ always_dark ∷ always_dark ∷ []

-- The roles of the modules in the first eight rows and columns of version 1, row by row. They are a finder pattern and
-- its separator (ISO/IEC 18004:2015, 6.3.3, 6.3.4)
abbrev pub finder_figure : List (List Role)
finder_figure =
    (always_dark ∷ always_dark ∷ always_dark ∷ always_dark ∷ always_dark ∷ always_dark ∷ always_dark ∷ always_light ∷ [])
    ∷ (always_dark ∷ always_light ∷ always_light ∷ always_light ∷ always_light ∷ always_light ∷ always_dark ∷ always_light ∷ [])
    ∷ (always_dark ∷ always_light ∷ always_dark ∷ always_dark ∷ always_dark ∷ always_light ∷ always_dark ∷ always_light ∷ [])
    ∷ (always_dark ∷ always_light ∷ always_dark ∷ always_dark ∷ always_dark ∷ always_light ∷ always_dark ∷ always_light ∷ [])
    ∷ (always_dark ∷ always_light ∷ always_dark ∷ always_dark ∷ always_dark ∷ always_light ∷ always_dark ∷ always_light ∷ [])
    ∷ (always_dark ∷ always_light ∷ always_light ∷ always_light ∷ always_light ∷ always_light ∷ always_dark ∷ always_light ∷ [])
    ∷ (always_dark ∷ always_dark ∷ always_dark ∷ always_dark ∷ always_dark ∷ always_dark ∷ always_dark ∷ always_light ∷ [])
    ∷ (always_light ∷ always_light ∷ always_light ∷ always_light ∷ always_light ∷ always_light ∷ always_light ∷ always_light ∷ []) ∷ []

-- The roles of the modules in the rows and columns 15 to 21 of version 2, row by row. They are an alignment pattern,
-- and around it modules of the region (ISO/IEC 18004:2015, 6.3.6)
abbrev pub alignment_figure : List (List Role)
alignment_figure =
    (Region ∷ Region ∷ Region ∷ Region ∷ Region ∷ Region ∷ Region ∷ [])
    ∷ (Region ∷ always_dark ∷ always_dark ∷ always_dark ∷ always_dark ∷ always_dark ∷ Region ∷ [])
    ∷ (Region ∷ always_dark ∷ always_light ∷ always_light ∷ always_light ∷ always_dark ∷ Region ∷ [])
    ∷ (Region ∷ always_dark ∷ always_light ∷ always_dark ∷ always_light ∷ always_dark ∷ Region ∷ [])
    ∷ (Region ∷ always_dark ∷ always_light ∷ always_light ∷ always_light ∷ always_dark ∷ Region ∷ [])
    ∷ (Region ∷ always_dark ∷ always_dark ∷ always_dark ∷ always_dark ∷ always_dark ∷ Region ∷ [])
    ∷ (Region ∷ Region ∷ Region ∷ Region ∷ Region ∷ Region ∷ Region ∷ []) ∷ []

-- The roles of the modules in the version information beside the top right finder pattern, row by row (ISO/IEC
-- 18004:2015, 7.10)
abbrev pub version_figure : List (List Role)
version_figure =
    (VersionBit 0 ∷ VersionBit 1 ∷ VersionBit 2 ∷ [])
    ∷ (VersionBit 3 ∷ VersionBit 4 ∷ VersionBit 5 ∷ [])
    ∷ (VersionBit 6 ∷ VersionBit 7 ∷ VersionBit 8 ∷ [])
    ∷ (VersionBit 9 ∷ VersionBit 10 ∷ VersionBit 11 ∷ [])
    ∷ (VersionBit 12 ∷ VersionBit 13 ∷ VersionBit 14 ∷ [])
    ∷ (VersionBit 15 ∷ VersionBit 16 ∷ VersionBit 17 ∷ []) ∷ []
