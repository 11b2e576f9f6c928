-- The last digits of a number, three at a time.
use Rattle.qr_documents.specs.Measures.{last_digits}
use Rattle.std.proofs.Common.{◌≡◌, ℕ, [], ◌∷◌, ◌+◌, ◌/◌, ◌%◌, ◌++◌, arith, refl}

-- six digits are those of the thousands and the last three
pub six-digits : (n : ℕ) → last_digits 6 n ≡ last_digits 3 (n / 1000) ++ last_digits 3 n
unfolding last_digits
six-digits n =
    let e : n / 1000 ≡ n / 10 / 10 / 10 = omega arith in rw e refl

-- ten digits are the first and three times three
pub ten-digits : (n : ℕ) → last_digits 10 n ≡ (48 + n / 1000000000 % 10) ∷ [] ++ last_digits 3 (n / 1000000) ++ last_digits 3 (n / 1000) ++ last_digits 3 n
unfolding last_digits
ten-digits n =
    let a : n / 1000 ≡ n / 10 / 10 / 10 = omega arith in
    let b : n / 1000000 ≡ n / 10 / 10 / 10 / 10 / 10 / 10 = omega arith in
    let c : n / 1000000000 ≡ n / 10 / 10 / 10 / 10 / 10 / 10 / 10 / 10 / 10 = omega arith in
    rw (a, b, c) refl
