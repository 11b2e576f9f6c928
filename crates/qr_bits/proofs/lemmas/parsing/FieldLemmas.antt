-- What alphanumeric mode writes after FNC1 is read back.
use Rattle.std.proofs.{Common.{◌≡◌, ℕ, true, List, [], ◌∷◌, length, replicate, refl, arith}, lemmas.Bool.{and_parts, eqb-true}}
use Rattle.qr_bits.specs.Interpretation.{separated, escaped, are_fields, characters_in, characters_gs1}
use Rattle.qr_bits.specs.declared.modes.Mode.TheVariants.{Alphanumeric}
use Rattle.qr_bits.specs.declared.interpretation.Interpretation.TheVariants as written

pub escaped_written : (xs : List ℕ) → characters_in written.Gs1 xs (replicate (length xs) Alphanumeric) ≡ escaped xs
unfolding characters_gs1 escaped
escaped_written [] = refl
escaped_written (x ∷ xs) = grind (arith, escaped_written xs)

pub fields_again : (xs : List ℕ) → are_fields xs ≡ true → separated (escaped xs) ≡ xs
unfolding separated escaped are_fields
fields_again [] h = refl
fields_again (x ∷ []) h = grind (arith, eqb-true)
fields_again (x ∷ y ∷ xs) h = search (arith, eqb-true, and_parts, fields_again (y ∷ xs))
