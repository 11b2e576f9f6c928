-- Sixteen sums of products in the field of 256 elements, which are computed at once. One factor of each product is cut
-- into four digits to the base 4, which have the weights 64, 16, 4 and 1, and each digit is multiplied by the other
-- factor. For each of the sixteen, the results for digits of equal weight are added up, which yields four sums. From
-- these the sum of the products is put together.
use Rattle.std.specs.Prelude.{ℕ, bit_xor}
use Rattle.std.specs.Int.{byte_at}
use Rattle.qr_field.specs.Galois.{product}
use Rattle.qr_mending.specs.declared.sums.Sums.{Sums}

-- The sum of 64 times `a`, 16 times `b`, 4 times `c`, and `d`, in the field of 256 elements. Here `a`, `b`, `c` and `d`
-- are the sums for the weights 64, 16, 4 and 1. Horner's rule is used.
abbrev pub of_digits : ℕ → ℕ → ℕ → ℕ → ℕ
of_digits a b c d =
    bit_xor (product 2 (product 2 (bit_xor (product 2 (product 2 (bit_xor (product 2 (product 2 a)) b))) c))) d

-- Sum k of the sixteen, counted from 0. It is put together from the four sums for the weights 64, 16, 4 and 1, which
-- are the bytes with the index k of the numbers in `s`.
abbrev pub sum_at : ℕ → Sums → ℕ
sum_at k s = of_digits (byte_at k s.sixty_fours) (byte_at k s.sixteens) (byte_at k s.fours) (byte_at k s.ones)
