use Rattle.std.proofs.Common.{ℕ, List, [], ◌∷◌, refl}
use Rattle.qr_field.{specs.{Galois.{product, remainder_of, carryless}, Laws.worked_correction}, proofs.lemmas.polynomial.ListLemmas.bytes-computed}
use Rattle.qr_field.proofs.laws.correction_computes.Goals as goal

-- the quotient of the division
quotient : List ℕ
quotient =
    0x10 ∷ 0x21 ∷ 0x6A ∷ 0xD1 ∷ 0xF7 ∷ 0xD3 ∷ 0x75 ∷ 0x11 ∷ 0x01 ∷ 0xE9 ∷
    0xA5 ∷ 0x0F ∷ 0x7A ∷ 0xA2 ∷ 0x3F ∷ 0x1A ∷ []

pub returns : goal.returns
unfolding product remainder_of carryless quotient
returns c =
    record {
      count = refl;
      bytes = bytes-computed worked_correction refl;
      multiple = record { quotient = quotient; bytes = bytes-computed quotient refl; whole = refl };
    }
