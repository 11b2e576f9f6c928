-- Registers. A register is a number of 256 bits, in which the code keeps the coefficients of a polynomial when it
-- divides. Each coefficient has eight bits. The polynomial's coefficient of the highest power comes first, in the
-- lowest bits.
use Rattle.std.specs.Prelude.{◌≡◌, ℕ, ◌+◌, ◌*◌, ◌/◌, ◌%◌, ◌^◌, ◌<◌, List, [], ◌∷◌, drop, length, slice_index_or}
use Prim.Native.Nat.{zero, suc}
use Rattle.qr_field.specs.declared.register.Register.{Register}
use Rattle.qr_field.specs.Polynomial.{scaled, generator_of, IsCorrection}

-- The coefficients of the list as one number. Each takes eight bits, and the first coefficient takes the lowest eight
abbrev pub packed : List ℕ → ℕ
packed [] = 0
packed (b ∷ bs) = packed bs * 2 ^ 8 + b

-- The first n coefficients that the number v contains. Each takes eight bits, and the first coefficient takes the
-- lowest eight
unfoldable pub unpacked : ℕ → ℕ → List ℕ
unpacked zero v = []
unpacked (suc n) v = v % 2 ^ 8 ∷ unpacked n (v / 2 ^ 8)

-- The 256 bits of a register as one number, in which the word `low` is the lower half
abbrev pub value_of : Register → ℕ
value_of r = r.high * 2 ^ 128 + r.low

-- The register whose bits are all 0
abbrev pub zero_register : Register
zero_register = record { low = 0; high = 0 }

-- The generator polynomial for n error correction codewords, without its first coefficient, which is 1
abbrev pub divisor_of : ℕ → List ℕ
divisor_of n = drop 1 (generator_of n)

-- `rows` is a table of 16 registers, in which the code finds multiples of the polynomial g. For each f below `bound`,
-- register f holds the product of g and the field element f * 2^shift
pub record HasMultiples (g : List ℕ) (shift bound : ℕ) (rows : List Register) : Type 0 where
  pub many : length rows ≡ 16
  pub each : (f : ℕ) → f < bound → value_of (slice_index_or rows f zero_register) ≡ packed (scaled (f * 2 ^ shift) g)

-- The number v contains the n error correction codewords of the data codewords d. Each takes eight bits, and the first
-- codeword takes the lowest eight
pub record IsHeld (d : List ℕ) (n v : ℕ) : Type 0 where
  pub items : List ℕ
  pub correction : IsCorrection d n items
  pub same : v ≡ packed items
