-- Lengths on paper as decimal fractions. A length is given in micrometres.
use Rattle.std.specs.Prelude.{ℕ, zero, suc, ◌+◌, ◌*◌, ◌/◌, ◌%◌, ◌^◌, List, [], ◌∷◌, ◌++◌, codes, decimal}

-- The last `places` decimal digits of `n`. If `n` has fewer, zeros come before them [own]
unfoldable pub last_digits : ℕ → ℕ → List ℕ
last_digits zero n = []
last_digits (suc places) n = last_digits places (n / 10) ++ (48 + n % 10) ∷ []

-- The number `n` divided by 10 to the power of `places`, with `places` digits after the point [own]
unfoldable pub fraction : ℕ → ℕ → List ℕ
fraction places n = decimal (n / 10 ^ places) ++ codes "." ++ last_digits places n

-- The length in millimetres, which is exact [own]
unfoldable pub millimetres : ℕ → List ℕ
millimetres micrometres = fraction 3 micrometres

-- The length in points, of which an inch has 72. It is rounded down to six digits after the point. An inch has 25,400
-- micrometres [own]
unfoldable pub points : ℕ → List ℕ
points micrometres = fraction 6 (micrometres * 72000000 / 25400)

-- The length in points, rounded up to a whole number [own]
unfoldable pub whole_points : ℕ → List ℕ
whole_points micrometres = decimal ((micrometres * 72 + 25399) / 25400)
