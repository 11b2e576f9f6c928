-- Numbers as texts.
use Rattle.std.proofs.Common.{◌≡◌, ℕ, ◌^◌, ◌<◌, ◌≤◌, arith, List, ◌++◌, append_assoc, length}
use Rattle.std.specs.Prelude.{decimal}
use Rattle.std.proofs.lemmas.Fmt.{length-decimal-le}

-- a number of 32 bits has at most ten digits
pub number-digits : (n : ℕ) → n < 2 ^ 32 → length (decimal n) ≤ 10
number-digits n l = length-decimal-le 10 n (omega arith) (omega arith) (omega arith)

-- a text and a number were appended
pub number-is : (n : ℕ) (h p1 p2 text digits : List ℕ) → p1 ≡ h ++ text → p2 ≡ p1 ++ digits → digits ≡ decimal n → p2 ≡ h ++ (text ++ decimal n)
number-is n h p1 p2 text digits e f d = rw (f, e, d) (append_assoc h text (decimal n))
