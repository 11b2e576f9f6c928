-- The strips of a symbol with `s` modules on a side, and all their places. Some of these places are outside the region.
use Rattle.std.specs.Prelude.{ℕ, ◌+◌, ◌-◌, ◌*◌, ◌%◌, ◌==◌, nat_lt, if◌then◌else◌, List, [], ◌∷◌, ◌++◌}
use Prim.Native.Nat.{zero, suc}
use Rattle.qr_layout.specs.declared.region.Module.{Module}
use Rattle.qr_layout.specs.declared.strips.Strip.{Strip}

-- Places in the right column of a strip, one for each row, in the order in which the rows are filled. The first `k`
-- rows in this order are skipped, and the list has the `n` rows that follow them (ISO/IEC 18004:2015, 7.7.3)
abbrev pub rows_from : ℕ → Strip → ℕ → ℕ → List Module
rows_from s strip k zero = []
rows_from s strip k (suc n) = record { row = if strip.upward then s - 1 - k else k; col = strip.right } ∷ rows_from s strip (k + 1) n

-- Each place of the list, which is in the right column of a strip, followed by its left neighbour, which is in the left
-- column (ISO/IEC 18004:2015, 7.7.3)
abbrev pub both_of : List Module → List Module
both_of [] = []
both_of (m ∷ ms) = m ∷ record { row = m.row; col = m.col - 1 } ∷ both_of ms

-- All places of the strips in the order in which they are filled: strip by strip, each strip row by row, and in each
-- row the right place before the left one (ISO/IEC 18004:2015, 7.7.3)
abbrev pub places_of : ℕ → List Strip → List Module
places_of s [] = []
places_of s (x ∷ xs) = both_of (rows_from s x 0 s) ++ places_of s xs

-- The strip with the number `p`, where the leftmost strip has the number 1. Strips with even numbers are filled upward,
-- and the others downward. Column 6, which has a timing pattern, is in no strip (ISO/IEC 18004:2015, 7.7.3)
abbrev pub strip_at : ℕ → Strip
strip_at p = record { right = (let c = 2 * p - 1 in if nat_lt c 6 then c else c + 1); upward = p % 2 == 0 }

-- The `p` leftmost strips, listed from right to left as they are filled (ISO/IEC 18004:2015, 7.7.3)
abbrev pub strips_to_come : ℕ → List Strip
strips_to_come zero = []
strips_to_come (suc p) = strip_at (suc p) ∷ strips_to_come p
