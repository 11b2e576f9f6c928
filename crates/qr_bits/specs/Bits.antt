-- Numbers and bytes as bits, the most significant first.
use Rattle.std.specs.Prelude.{ℕ, zero, suc, ◌+◌, ◌-◌, ◌*◌, ◌/◌, ◌%◌, ◌^◌, Bool, true, false, ◌==◌, List, [], ◌∷◌, ◌++◌}
use Rattle.std.specs.List.{slice_index_or}

-- The lowest `w` bits of the number `n`, of which the highest comes first (ISO/IEC 18004:2015, 7.4.1)
unfoldable pub field : ℕ → ℕ → List Bool
field zero n = []
field (suc w) n = (n / 2 ^ w % 2 == 1) ∷ field w n

-- The number whose binary digits are those of the number `a`, followed by the bits `bs` [own]
abbrev pub value_from : ℕ → List Bool → ℕ
value_from a [] = a
value_from a (true ∷ bs) = value_from (2 * a + 1) bs
value_from a (false ∷ bs) = value_from (2 * a) bs

-- The number whose binary digits are the bits `bs` (ISO/IEC 18004:2015, 7.4.1)
abbrev pub value : List Bool → ℕ
value bs = value_from 0 bs

-- The bits of the bytes, one byte after the other. The highest bit of a byte comes first (ISO/IEC 18004:2015, 7.4.5,
-- 7.4.10)
unfoldable pub bits_of : List ℕ → List Bool
bits_of [] = []
bits_of (b ∷ bs) = field 8 b ++ bits_of bs

-- Bit `k` of the codewords `cw`, where bit 0 is the highest bit of the first codeword. The bits after the last codeword
-- are remainder bits. They are 0, so that their modules are light before the mask is applied (ISO/IEC 18004:2015,
-- 7.7.3)
abbrev pub codeword_bit : List ℕ → ℕ → Bool
codeword_bit cw k = slice_index_or cw (k / 8) 0 / 2 ^ (7 - k % 8) % 2 == 1
