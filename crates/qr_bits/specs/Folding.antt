-- Folding: small letters of an input become capitals before it is cut into segments.
use Rattle.std.specs.Prelude.{ℕ, ◌-◌, ◌&&◌, nat_le, if◌then◌else◌, List, [], ◌∷◌, map}
use Rattle.qr_bits.specs.declared.modes.Rule.{Rule}
use Rattle.qr_bits.specs.declared.modes.Rule.TheVariants.{Auto, BytesOnly, WithKanji}
use Rattle.qr_bits.specs.Modes.{is_kanji_pair}

-- The capital of a letter from `a` to `z`. Any other byte stays as it is [own]
abbrev pub capital : ℕ → ℕ
capital b = if nat_le 97 b && nat_le b 122 then b - 32 else b

-- The bytes with capitals in place of small letters, except in kanji pairs, which stay as they are. The bytes are read
-- from first to last to find the pairs [own]
unfoldable pub folded_around_pairs : List ℕ → List ℕ
folded_around_pairs [] = []
folded_around_pairs (x ∷ []) = capital x ∷ []
folded_around_pairs (x ∷ y ∷ xs) =
    if is_kanji_pair x y then x ∷ y ∷ folded_around_pairs xs else capital x ∷ folded_around_pairs (y ∷ xs)

-- The bytes after folding. Under the rule `Auto` all small letters become capitals, and under `BytesOnly` none do.
-- Under `WithKanji` the small letters outside kanji pairs do [own]
abbrev pub folded : Rule → List ℕ → List ℕ
folded Auto xs = map capital xs
folded BytesOnly xs = xs
folded WithKanji xs = folded_around_pairs xs
