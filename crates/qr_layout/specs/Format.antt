-- The bits of the format information and of the version information, and the places of the modules that contain them.
-- Bit 0 is the lowest bit. In a division a number stands for the polynomial whose coefficient of x^i is bit i of the
-- number. `s` is the number of modules on a side, and `v` a version.
use Rattle.std.specs.Prelude.{◌≡◌, ℕ, ◌+◌, ◌-◌, ◌*◌, ◌/◌, ◌%◌, ◌^◌, ◌<◌, ◌≤◌, Bool, ◌&&◌, ◌||◌, nat_lt, ◌==◌, if◌then◌else◌, Option, None, List, [], ◌∷◌, bit_xor}
use Prim.Native.Nat.{zero, suc}
use Rattle.std.specs.Int.{bit_at}
use Rattle.std.specs.List.{find, range_with_len}
use Rattle.qr_layout.specs.declared.region.Module.{Module}
use Rattle.qr_layout.specs.declared.level.Level.{Level}
use Rattle.qr_layout.specs.declared.level.Level.TheVariants.{L, M, Q, H}
use Rattle.qr_layout.specs.Version.{side_of}

-- x^10 + x^8 + x^5 + x^4 + x^2 + x + 1, the generator polynomial of format information (ISO/IEC 18004:2015, Annex C)
abbrev pub format_generator : ℕ
format_generator = 0x537

-- x^12 + x^11 + x^10 + x^9 + x^8 + x^5 + x^2 + 1, the generator polynomial of version information (ISO/IEC 18004:2015,
-- Annex D)
abbrev pub version_generator : ℕ
version_generator = 0x1F25

-- The remainder that `x` leaves when it is divided by `divisor`, a polynomial of degree `n`. Here `x` has at most `n +
-- k` bits, and the remainder is computed by long division in `k` steps (ISO/IEC 18004:2015, Annexes C and D)
unfoldable pub word_remainder : ℕ → ℕ → ℕ → ℕ → ℕ
word_remainder n divisor zero x = x
word_remainder n divisor (suc k) x = word_remainder n divisor k (bit_xor x (bit_at x (n + k) * (divisor * 2 ^ k)))

-- The `k` bits of `x`, followed by the `n` bits of a remainder. To get this remainder, `n` zeros are written after `x`,
-- and the result is divided by `generator`, a polynomial of degree `n` (ISO/IEC 18004:2015, Annexes C and D)
abbrev pub with_remainder : ℕ → ℕ → ℕ → ℕ → ℕ
with_remainder n generator k x = x * 2 ^ n + word_remainder n generator k (x * 2 ^ n)

-- The number that the two bits of the level make in the format information (ISO/IEC 18004:2015, 7.9.1)
abbrev pub level_bits : Level → ℕ
level_bits L = 1
level_bits M = 0
level_bits Q = 3
level_bits H = 2

-- The two bits of the level, followed by the three bits of the mask, as one number (ISO/IEC 18004:2015, 7.9.1)
abbrev pub five_bits : Level → ℕ → ℕ
five_bits level mask = 8 * level_bits level + mask

-- The 15 bits of format information, made from the five bits `five`, which give the level and the mask. The ten bits of
-- a remainder (`with_remainder`) are appended to the five, and all 15 bits are combined with 101010000010010 by
-- exclusive or (ISO/IEC 18004:2015, 7.9.1 and Annex C)
abbrev pub format_with : ℕ → ℕ
format_with five = bit_xor (with_remainder 10 format_generator 5 five) 0x5412

-- The 15 bits of the format information for a level and for the mask with the number `mask`, from 0 to 7 (ISO/IEC
-- 18004:2015, 7.9.1)
unfoldable pub format_word_of : Level → ℕ → ℕ
format_word_of level mask = format_with (five_bits level mask)

-- The 18 bits of the version information: the six bits of the version, followed by the twelve bits of the remainder
-- that `with_remainder` appends (ISO/IEC 18004:2015, 7.10 and Annex D)
unfoldable pub version_word_of : ℕ → ℕ
version_word_of v = with_remainder 12 version_generator 6 v

-- The exclusive or of shifted copies of `divisor`: one for each `k` in `ks`, shifted left by `k` bits [own]
abbrev pub sum_of_shifts : ℕ → List ℕ → ℕ
sum_of_shifts divisor [] = 0
sum_of_shifts divisor (k ∷ ks) = bit_xor (divisor * 2 ^ k) (sum_of_shifts divisor ks)

-- `r` is the remainder that `x` leaves when it is divided by `divisor`, a polynomial of degree `n`. So `r` has at most
-- `n` bits, and the exclusive or of `x` and `r` is a multiple of `divisor`, that is, an exclusive or of shifted copies
-- of `divisor` (ISO/IEC 18004:2015, Annexes C and D)
pub record IsWordRemainder (n divisor x r : ℕ) : Type 0 where
  pub monic : (2 ^ n ≤ divisor) × (divisor < 2 ^ (n + 1))
  pub small : r < 2 ^ n
  pub shifts : List ℕ
  pub multiple : bit_xor x r ≡ sum_of_shifts divisor shifts

-- `word` is the format information, made from the five bits `five`, which give the level and the mask. The ten bits of
-- a remainder (`IsWordRemainder`) are appended to the five, and all 15 bits are combined with 101010000010010 by
-- exclusive or (ISO/IEC 18004:2015, Annex C)
pub record IsFormatWord (five word : ℕ) : Type 0 where
  pub rest : ℕ
  pub remainder : IsWordRemainder 10 format_generator (five * 2 ^ 10) rest
  pub word_is : word ≡ bit_xor (five * 2 ^ 10 + rest) 0x5412

-- `word` is the version information of version `v`: the six bits of the version, followed by the twelve bits of the
-- remainder that `IsWordRemainder` describes (ISO/IEC 18004:2015, Annex D)
pub record IsVersionWord (v word : ℕ) : Type 0 where
  pub rest : ℕ
  pub remainder : IsWordRemainder 12 version_generator (v * 2 ^ 12) rest
  pub word_is : word ≡ v * 2 ^ 12 + rest

-- The place of bit `i` of the format information in the first copy, which is beside the top left finder pattern. The
-- bits go down column 8 and then along row 8 to the left. They leave out the timing patterns (ISO/IEC 18004:2015,
-- 7.9.1)
abbrev pub first_place : ℕ → Module
first_place i = record {
  row = if nat_lt i 6 then i else (if i == 6 then 7 else 8);
  col = if nat_lt i 8 then 8 else (if i == 8 then 7 else 14 - i);
}

-- The place of bit `i` of the format information in the second copy. Its bits 0 to 7 are below the top right finder
-- pattern, from right to left, and its bits 8 to 14 beside the bottom left one, from the top down (ISO/IEC 18004:2015,
-- 7.9.1)
abbrev pub second_place : ℕ → ℕ → Module
second_place s i = record {
  row = if nat_lt i 8 then 8 else s - 15 + i;
  col = if nat_lt i 8 then s - 1 - i else 8;
}

-- The place of bit `i` of the version information in the copy beside the top right finder pattern. Each of its six rows
-- has three bits, with bit 0 at the top left. In the copy beside the bottom left finder pattern, rows and columns are
-- exchanged (ISO/IEC 18004:2015, 7.10)
abbrev pub version_place : ℕ → ℕ → Module
version_place s i = record { row = i / 3; col = s - 11 + i % 3 }

-- The place whose row is the column of `m`, and whose column is the row of `m` [own]
abbrev pub mirror_of : Module → Module
mirror_of m = record { row = m.col; col = m.row }

-- The place `m` is in row `r` and column `c` [own]
abbrev pub is_at : Module → ℕ → ℕ → Bool
is_at m r c = m.row == r && m.col == c

-- The number of the bit of the format information that the module in row `r` and column `c` contains, where bit 0 is
-- the lowest. It is `None` if the module contains no such bit (ISO/IEC 18004:2015, 7.9.1)
unfoldable pub format_bit_at : ℕ → ℕ → ℕ → Option ℕ
format_bit_at s r c = find (λ i. is_at (first_place i) r c || is_at (second_place s i) r c) (range_with_len 0 15)

-- The number of the bit of the version information that the module in row `r` and column `c` contains, where bit 0 is
-- the lowest. It is `None` if the module contains no such bit, as in versions below 7 (ISO/IEC 18004:2015, 7.10)
unfoldable pub version_bit_at : ℕ → ℕ → ℕ → Option ℕ
version_bit_at v r c =
    if nat_lt v 7 then None else
    find (λ i. is_at (version_place (side_of v) i) r c || is_at (mirror_of (version_place (side_of v) i)) r c) (range_with_len 0 18)
