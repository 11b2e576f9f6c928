-- The eight masks, numbered from 0.
use Rattle.std.specs.Prelude.{ℕ, ◌+◌, ◌*◌, ◌/◌, ◌%◌, ◌==◌, Bool, if◌then◌else◌, not}

-- The mask with the number `mask` inverts the module in row `r` and column `c`, if this place is in the region. Whether
-- it is in the region is not tested here (ISO/IEC 18004:2015, 7.8.2, Table 10)
unfoldable pub inverts : ℕ → ℕ → ℕ → Bool
inverts mask r c =
    if mask == 0 then (r + c) % 2 == 0
    else if mask == 1 then r % 2 == 0
    else if mask == 2 then c % 3 == 0
    else if mask == 3 then (r + c) % 3 == 0
    else if mask == 4 then (r / 2 + c / 3) % 2 == 0
    else if mask == 5 then r * c % 2 + r * c % 3 == 0
    else if mask == 6 then (r * c % 2 + r * c % 3) % 2 == 0
    else ((r + c) % 2 + r * c % 3) % 2 == 0

-- The colour `bit`, changed to the other colour if `is_to_be` is true (ISO/IEC 18004:2015, 7.8.2)
abbrev pub inverted : Bool → Bool → Bool
inverted is_to_be bit = if is_to_be then not bit else bit
