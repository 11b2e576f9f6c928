-- Where the alignment patterns of a symbol with `s` modules on a side have their centres. The columns that contain
-- centres have the same numbers as the rows that contain them.
use Rattle.std.specs.Prelude.{ℕ, ◌-◌, Bool, ◌&&◌, ◌||◌, ◌==◌, if◌then◌else◌, List, [], ◌∷◌}
use Rattle.std.specs.List.{flat_map, slice_index_or}
use Rattle.qr_layout.specs.declared.region.Module.{Module}

-- For each of the versions 1 to 40, the numbers of the rows that contain centres of alignment patterns. The columns
-- that contain centres have the same numbers (ISO/IEC 18004:2015, Annex E)
abbrev pub centre_table : List (List ℕ)
centre_table =
    [] ∷ (6 ∷ 18 ∷ []) ∷ (6 ∷ 22 ∷ []) ∷ (6 ∷ 26 ∷ []) ∷ (6 ∷ 30 ∷ []) ∷ (6 ∷ 34 ∷ []) ∷ (6 ∷ 22 ∷ 38 ∷ []) ∷ (6 ∷ 24 ∷ 42 ∷ []) ∷ (6 ∷ 26 ∷ 46 ∷ []) ∷ (6 ∷ 28 ∷ 50 ∷ [])
    ∷ (6 ∷ 30 ∷ 54 ∷ []) ∷ (6 ∷ 32 ∷ 58 ∷ []) ∷ (6 ∷ 34 ∷ 62 ∷ []) ∷ (6 ∷ 26 ∷ 46 ∷ 66 ∷ []) ∷ (6 ∷ 26 ∷ 48 ∷ 70 ∷ []) ∷ (6 ∷ 26 ∷ 50 ∷ 74 ∷ []) ∷ (6 ∷ 30 ∷ 54 ∷ 78 ∷ []) ∷ (6 ∷ 30 ∷ 56 ∷ 82 ∷ []) ∷ (6 ∷ 30 ∷ 58 ∷ 86 ∷ []) ∷ (6 ∷ 34 ∷ 62 ∷ 90 ∷ [])
    ∷ (6 ∷ 28 ∷ 50 ∷ 72 ∷ 94 ∷ []) ∷ (6 ∷ 26 ∷ 50 ∷ 74 ∷ 98 ∷ []) ∷ (6 ∷ 30 ∷ 54 ∷ 78 ∷ 102 ∷ []) ∷ (6 ∷ 28 ∷ 54 ∷ 80 ∷ 106 ∷ []) ∷ (6 ∷ 32 ∷ 58 ∷ 84 ∷ 110 ∷ []) ∷ (6 ∷ 30 ∷ 58 ∷ 86 ∷ 114 ∷ []) ∷ (6 ∷ 34 ∷ 62 ∷ 90 ∷ 118 ∷ [])
    ∷ (6 ∷ 26 ∷ 50 ∷ 74 ∷ 98 ∷ 122 ∷ []) ∷ (6 ∷ 30 ∷ 54 ∷ 78 ∷ 102 ∷ 126 ∷ []) ∷ (6 ∷ 26 ∷ 52 ∷ 78 ∷ 104 ∷ 130 ∷ []) ∷ (6 ∷ 30 ∷ 56 ∷ 82 ∷ 108 ∷ 134 ∷ []) ∷ (6 ∷ 34 ∷ 60 ∷ 86 ∷ 112 ∷ 138 ∷ []) ∷ (6 ∷ 30 ∷ 58 ∷ 86 ∷ 114 ∷ 142 ∷ []) ∷ (6 ∷ 34 ∷ 62 ∷ 90 ∷ 118 ∷ 146 ∷ [])
    ∷ (6 ∷ 30 ∷ 54 ∷ 78 ∷ 102 ∷ 126 ∷ 150 ∷ []) ∷ (6 ∷ 24 ∷ 50 ∷ 76 ∷ 102 ∷ 128 ∷ 154 ∷ []) ∷ (6 ∷ 28 ∷ 54 ∷ 80 ∷ 106 ∷ 132 ∷ 158 ∷ []) ∷ (6 ∷ 32 ∷ 58 ∷ 84 ∷ 110 ∷ 136 ∷ 162 ∷ []) ∷ (6 ∷ 26 ∷ 54 ∷ 82 ∷ 110 ∷ 138 ∷ 166 ∷ []) ∷ (6 ∷ 30 ∷ 58 ∷ 86 ∷ 114 ∷ 142 ∷ 170 ∷ []) ∷ []

-- The numbers of the rows that contain centres of alignment patterns in version `v`, in rising order. Version 1 has
-- none (ISO/IEC 18004:2015, Annex E)
unfoldable pub centres_of : ℕ → List ℕ
centres_of v = slice_index_or centre_table (v - 1) []

-- Row `a` and column `b`, which both contain centres, meet in a corner with a finder pattern, so no alignment pattern
-- has its centre there (ISO/IEC 18004:2015, 6.3.6)
abbrev pub is_corner_pair : ℕ → ℕ → ℕ → Bool
is_corner_pair s a b = (a == 6 && b == 6) || (a == 6 && b == s - 7) || (a == s - 7 && b == 6)

-- The centres of the alignment patterns. `cs` lists the numbers of the rows that contain centres, and also of the
-- columns that do. A place whose row and column are both in this list is a centre, unless it is in a corner with a
-- finder pattern (ISO/IEC 18004:2015, 6.3.6)
abbrev pub alignment_places : ℕ → List ℕ → List Module
alignment_places s cs = flat_map (λ a. flat_map (λ b. if is_corner_pair s a b then [] else record { row = a; col = b } ∷ []) cs) cs
