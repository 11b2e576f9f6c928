-- How many characters of one mode fit so many bits.
use Rattle.std.proofs.Common.{◌≡◌, ℕ, ◌+◌, ◌*◌, ◌/◌, arith}
use Rattle.std.proofs.lemmas.Bool.Decides.{nat_tests}
use Rattle.qr_bits.specs.declared.modes.Mode.TheVariants.{Numeric, Alphanumeric, Kanji}
use Rattle.qr_bits.specs.Modes.{payload_bits}

-- `n` digits take 10 bits for each three, rounded up
pub digits_up : (n : ℕ) → payload_bits Numeric n ≡ (10 * n + 2) / 3
digits_up n = grind (arith, nat_tests)

-- `n` characters of alphanumeric mode take 11 bits for each two, rounded up
pub characters_up : (n : ℕ) → payload_bits Alphanumeric n ≡ (11 * n + 1) / 2
characters_up n = omega arith

-- `n` kanji take 13 bits each
pub kanji_up : (n : ℕ) → payload_bits Kanji (2 * n) ≡ 13 * n
kanji_up n = omega arith
