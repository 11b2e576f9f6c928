-- `least_bits` is a lower bound on the number of bits of any segments.
use Rattle.std.proofs.Common.{◌≡◌, ℕ, ◌*◌, ◌≤◌, Bool, true, cond, List, [], ◌∷◌, length, drop, sum_by, ap, arith, IsTrue}
use Rattle.std.{proofs.lemmas.{Bool.{and_parts, false≢true, le-leb}, List.{length-take-le, Sums.{sum_by-cons, sum_by-take-drop}}}, specs.List.list_all}
use Rattle.qr_bits.specs.declared.{modes.{Mode.Mode, Rule.Rule}, segmentation.Segment.Segment, interpretation.Interpretation.Interpretation}
use Rattle.qr_bits.specs.{Interpretation.characters_in, Modes.{is_kanji_pair, is_digit, is_alphanumeric, suits, payload_bits}}
use Rattle.qr_bits.proofs.lemmas.{interpretation.characters-sixths, segmentation.CoverLemmas.{CoversBy, covers-by}, modes.past_z}
use Rattle.qr_bits.specs.Segmentation.{bits, HasFit, least_sixths, least_bits}

most : (digit low : Bool) → cond digit 20 (cond low 33 39) ≤ 39
most digit low = grind arith

character-most : (b : ℕ) → is_alphanumeric b ≡ true → least_sixths b ≤ 33
character-most b h = grind (arith, false≢true, past_z, le-leb)

digit-is : (b : ℕ) → is_digit b ≡ true → least_sixths b ≡ 20
digit-is b h = search arith

bytes-held : (xs : List ℕ) → sum_by least_sixths xs ≤ 39 * length xs
bytes-held [] = omega arith
bytes-held (x ∷ xs) = omega (arith, sum_by-cons, most, bytes-held xs)

characters-held : (xs : List ℕ) → list_all is_alphanumeric xs ≡ true → sum_by least_sixths xs ≤ 33 * length xs
characters-held [] h = omega arith
characters-held (x ∷ xs) h =
    let both = and_parts (is_alphanumeric x) (list_all is_alphanumeric xs) h in
    omega (arith, sum_by-cons, character-most, characters-held xs both.1)

digits-held : (xs : List ℕ) → list_all is_digit xs ≡ true → sum_by least_sixths xs ≤ 20 * length xs
digits-held [] h = omega arith
digits-held (x ∷ xs) h =
    let both = and_parts (is_digit x) (list_all is_digit xs) h in
    omega (arith, sum_by-cons, digit-is, digits-held xs both.1)

payload-held : (m : Mode) (xs : List ℕ) → IsTrue (suits m xs) → sum_by least_sixths xs ≤ 6 * payload_bits m (length xs)
payload-held m xs h = search (arith, digits-held, characters-held, bytes-held)

-- segments that cover bytes take at least the bits that `least_sixths` counts for the bytes
segments-held : (v : ℕ) (xs : List ℕ) (segs : List Segment) → CoversBy is_kanji_pair xs segs → sum_by least_sixths xs ≤ 6 * bits v segs
unfolding CoversBy
segments-held v xs [] c = omega (arith, ap (sum_by least_sixths) c)
segments-held v xs (s ∷ ss) c =
    search (arith, payload-held, sum_by-take-drop, segments-held v (drop s.len xs) ss c.3, length-take-le s.len xs c.1)

-- If an input fits `room` bits, its lower bound is at most `room`.
pub least-held : (i : Interpretation) (v : ℕ) (r : Rule) (xs : List ℕ) (room : ℕ) → HasFit i v r xs room → least_bits xs ≤ room
unfolding least_bits
least-held i v r xs room fit = omega (arith, characters-sixths i xs fit.0, segments-held v (characters_in i xs fit.0) _ (covers-by _ _ fit.1.1))
