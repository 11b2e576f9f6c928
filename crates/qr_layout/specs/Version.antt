-- The side, the codewords and the remainder bits of a symbol of version `v`, which is from 1 to 40.
use Rattle.std.specs.Prelude.{ℕ, ◌-◌, ◌+◌, ◌*◌, List, [], ◌∷◌}
use Rattle.std.specs.List.{slice_index_or}

-- The number of modules on a side: 21 in version 1, and 4 more in each version after it (ISO/IEC 18004:2015, 6.3.2)
abbrev pub side_of : ℕ → ℕ
side_of v = 17 + 4 * v

-- The number of codewords for each of the versions 1 to 40 (ISO/IEC 18004:2015, 7.1, Table 1)
abbrev pub total_table : List ℕ
total_table =
    26 ∷ 44 ∷ 70 ∷ 100 ∷ 134 ∷ 172 ∷ 196 ∷ 242 ∷ 292 ∷ 346 ∷ 404 ∷ 466 ∷ 532 ∷ 581 ∷ 655 ∷ 733 ∷ 815 ∷ 901 ∷ 991 ∷ 1085 ∷ 1156 ∷ 1258 ∷ 1364 ∷ 1474 ∷ 1588 ∷ 1706 ∷ 1828 ∷ 1921 ∷ 2051 ∷ 2185 ∷ 2323 ∷ 2465 ∷ 2611 ∷ 2761 ∷ 2876 ∷ 3034 ∷ 3196 ∷ 3362 ∷ 3532 ∷ 3706 ∷ []

-- The number of remainder bits for each of the versions 1 to 40 (ISO/IEC 18004:2015, 7.1, Table 1)
abbrev pub remainder_table : List ℕ
remainder_table =
    0 ∷ 7 ∷ 7 ∷ 7 ∷ 7 ∷ 7 ∷ 0 ∷ 0 ∷ 0 ∷ 0 ∷ 0 ∷ 0 ∷ 0 ∷ 3 ∷ 3 ∷ 3 ∷ 3 ∷ 3 ∷ 3 ∷ 3 ∷ 4 ∷ 4 ∷ 4 ∷ 4 ∷ 4 ∷ 4 ∷ 4 ∷ 3 ∷ 3 ∷ 3 ∷ 3 ∷ 3 ∷ 3 ∷ 3 ∷ 0 ∷ 0 ∷ 0 ∷ 0 ∷ 0 ∷ 0 ∷ []

-- The number of codewords of version `v`, data and error correction codewords together (ISO/IEC 18004:2015, 7.1, Table
-- 1)
unfoldable pub total_codewords_of : ℕ → ℕ
total_codewords_of v = slice_index_or total_table (v - 1) 0

-- The number of remainder bits of version `v`. They fill the modules of the region that the codewords leave (ISO/IEC
-- 18004:2015, 7.1, Table 1)
unfoldable pub remainder_bits_of : ℕ → ℕ
remainder_bits_of v = slice_index_or remainder_table (v - 1) 0

-- The number of modules of version `v` that are filled with bits: eight for each codeword, and one for each remainder
-- bit (ISO/IEC 18004:2015, 7.1, Table 1)
abbrev pub module_count_of : ℕ → ℕ
module_count_of v = 8 * total_codewords_of v + remainder_bits_of v
