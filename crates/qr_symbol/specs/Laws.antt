-- What the laws of this crate need to check examples. The first rows of each mask are computed here from `inverts`, and
-- are also listed as they were worked out by hand. `bits_down` reads the bits of the format or version information as
-- one binary number.
use Rattle.std.specs.Prelude.{ℕ, ◌-◌, Bool, List, [], ◌∷◌, map}
use Rattle.std.specs.List.{range_with_len}
use Rattle.qr_bits.specs.Bits.{value}
use Rattle.qr_symbol.specs.Mask.{inverts}

-- The numbers of the masks of Table 10, from 0 to 7 (ISO/IEC 18004:2015, 7.8.2)
abbrev pub all_masks : List ℕ
all_masks = range_with_len 0 8

-- Rows 0 to 11 of the mask in columns 0 to 5. Each row is a number of six binary digits, of which the highest is for
-- column 0. The digit of a place is 1 if the mask inverts a module there [own]
abbrev pub first_rows : ℕ → List ℕ
first_rows mask = map (λ r. value (map (inverts mask r) (range_with_len 0 6))) (range_with_len 0 12)

-- For each mask, rows 0 to 11 in columns 0 to 5, worked out from Table 10 without this program. The digits of a row are
-- for columns 0 to 5 in turn, and a digit is 1 if the mask inverts a module at its place (ISO/IEC 18004:2015, 7.8.2)
abbrev pub computed_rows : List (List ℕ)
computed_rows =
    (0b101010 ∷ 0b010101 ∷ 0b101010 ∷ 0b010101 ∷ 0b101010 ∷ 0b010101 ∷ 0b101010 ∷ 0b010101 ∷ 0b101010 ∷ 0b010101 ∷ 0b101010 ∷ 0b010101 ∷ []) ∷
    (0b111111 ∷ 0b000000 ∷ 0b111111 ∷ 0b000000 ∷ 0b111111 ∷ 0b000000 ∷ 0b111111 ∷ 0b000000 ∷ 0b111111 ∷ 0b000000 ∷ 0b111111 ∷ 0b000000 ∷ []) ∷
    (0b100100 ∷ 0b100100 ∷ 0b100100 ∷ 0b100100 ∷ 0b100100 ∷ 0b100100 ∷ 0b100100 ∷ 0b100100 ∷ 0b100100 ∷ 0b100100 ∷ 0b100100 ∷ 0b100100 ∷ []) ∷
    (0b100100 ∷ 0b001001 ∷ 0b010010 ∷ 0b100100 ∷ 0b001001 ∷ 0b010010 ∷ 0b100100 ∷ 0b001001 ∷ 0b010010 ∷ 0b100100 ∷ 0b001001 ∷ 0b010010 ∷ []) ∷
    (0b111000 ∷ 0b111000 ∷ 0b000111 ∷ 0b000111 ∷ 0b111000 ∷ 0b111000 ∷ 0b000111 ∷ 0b000111 ∷ 0b111000 ∷ 0b111000 ∷ 0b000111 ∷ 0b000111 ∷ []) ∷
    (0b111111 ∷ 0b100000 ∷ 0b100100 ∷ 0b101010 ∷ 0b100100 ∷ 0b100000 ∷ 0b111111 ∷ 0b100000 ∷ 0b100100 ∷ 0b101010 ∷ 0b100100 ∷ 0b100000 ∷ []) ∷
    (0b111111 ∷ 0b111000 ∷ 0b110110 ∷ 0b101010 ∷ 0b101101 ∷ 0b100011 ∷ 0b111111 ∷ 0b111000 ∷ 0b110110 ∷ 0b101010 ∷ 0b101101 ∷ 0b100011 ∷ []) ∷
    (0b101010 ∷ 0b000111 ∷ 0b100011 ∷ 0b010101 ∷ 0b111000 ∷ 0b011100 ∷ 0b101010 ∷ 0b000111 ∷ 0b100011 ∷ 0b010101 ∷ 0b111000 ∷ 0b011100 ∷ []) ∷ []

-- The number with `n` binary digits, of which the highest is `bit (n - 1)` and the lowest is `bit 0` [own]
abbrev pub bits_down : ℕ → (ℕ → Bool) → ℕ
bits_down n bit = value (map (λ i. bit (n - 1 - i)) (range_with_len 0 n))
