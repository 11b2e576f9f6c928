-- Folding around kanji pairs, step by step.
use Rattle.std.proofs.Common.{◌≡◌, ℕ, List, [], ◌∷◌, length, map, refl, arith}
use Rattle.std.{proofs.lemmas.{List.length-map, Bool.Decides.nat_tests}, specs.Char.to_ascii_uppercase}
use Rattle.qr_bits.specs.{declared.modes.Rule.Rule, Folding.{capital, folded, folded_around_pairs}}

-- what std calls the capital of a byte
pub uppercase : (b : ℕ) → to_ascii_uppercase b ≡ capital b
uppercase b = grind (arith, nat_tests)

-- the capitals of bytes
pub capitals : (xs : List ℕ) → map to_ascii_uppercase xs ≡ map capital xs
capitals [] = refl
capitals (x ∷ xs) = cc (uppercase x, capitals xs)

-- folding around pairs keeps the number of bytes
pub length-folded_around_pairs : (xs : List ℕ) → length (folded_around_pairs xs) ≡ length xs
unfolding folded_around_pairs
length-folded_around_pairs [] = refl
length-folded_around_pairs (x ∷ []) = refl
length-folded_around_pairs (x ∷ y ∷ xs) = grind (arith, length-folded_around_pairs xs, length-folded_around_pairs (y ∷ xs))

-- folding keeps the number of bytes
pub length-folded : (r : Rule) (xs : List ℕ) → length (folded r xs) ≡ length xs
length-folded r xs = grind (arith, length-map, length-folded_around_pairs)
