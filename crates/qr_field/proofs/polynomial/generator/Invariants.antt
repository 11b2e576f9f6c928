use Rattle.{arrayvec.specs.ArrayVec.array_vec_len, qr_field.specs.Polynomial.{power, generator_of}, std.proofs.Common.{◌≡◌, ◌∷◌}}
use Rattle.qr_field.proofs.polynomial.generator.Given as goal

abbrev pub invariant-loop-i : goal.invariant-loop-i
invariant-loop-i l =
    (array_vec_len l.coefficients ≡ l._i) × (1 ∷ l.coefficients.items ≡ generator_of l._i) × (l.root ≡ power l._i)
