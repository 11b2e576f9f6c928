-- Numbers as polynomials over bits. The coefficient of x^i is bit i, and the sum of two numbers is their exclusive or.
use Rattle.std.specs.Prelude.{◌≡◌, ℕ, ◌+◌, ◌*◌, ◌^◌, ◌<◌, ◌≤◌, bit_xor}
use Prim.Native.Nat.{zero, suc}
use Rattle.std.specs.Int.{bit_at}

-- The product of a and the lowest w bits of b, both taken as polynomials over bits (ISO/IEC 18004:2015, 7.5.2)
unfoldable pub carryless : ℕ → ℕ → ℕ → ℕ
carryless zero a b = 0
carryless (suc w) a b = bit_xor (bit_at b w * (a * 2 ^ w)) (carryless w a b)

-- r is the remainder of x after division by `divisor`, which has degree n. So r has at most n bits, and the sum of x
-- and r is a multiple of `divisor` (ISO/IEC 18004:2015, 7.5.2)
pub record IsRemainder (n divisor x r : ℕ) : Type 0 where
  pub degree_least : 2 ^ n ≤ divisor
  pub degree_most : divisor < 2 ^ (n + 1)
  pub small : r < 2 ^ n
  pub quotient : ℕ
  pub whole : bit_xor x r ≡ carryless (n + 1) quotient divisor

-- x^8 + x^4 + x^3 + x^2 + 1, the prime modulus polynomial of the field of 256 elements (ISO/IEC 18004:2015, 7.5.2)
abbrev pub prime_modulus : ℕ
prime_modulus = 0x11D

-- p is the product of a and b in the field of 256 elements. To compute it, a and b are multiplied as polynomials over
-- bits, and their product is divided by the prime modulus polynomial. The remainder is p (ISO/IEC 18004:2015, 7.5.2)
abbrev pub IsProduct : ℕ → ℕ → ℕ → Type 0
IsProduct a b p = IsRemainder 8 prime_modulus (carryless 8 a b) p

-- The remainder that x leaves when it is divided by `divisor`, which has degree n. Here x has at most n + k bits, and
-- the remainder is computed by long division in k steps (ISO/IEC 18004:2015, 7.5.2)
unfoldable pub remainder_of : ℕ → ℕ → ℕ → ℕ → ℕ
remainder_of n divisor zero x = x
remainder_of n divisor (suc k) x = remainder_of n divisor k (bit_xor x (bit_at x (n + k) * (divisor * 2 ^ k)))

-- The product of two elements a and b of the field. It is the only p for which `IsProduct a b p` holds (ISO/IEC
-- 18004:2015, 7.5.2)
unfoldable pub product : ℕ → ℕ → ℕ
product a b = remainder_of 8 prime_modulus 7 (carryless 8 a b)
