-- With an ECI the choice of segments is that without, and for GS1 data too if each byte is written as itself.
use Rattle.std.{proofs.{Common.{◌≡◌, ℕ, true, false, not, ◌&&◌, List, [], ◌∷◌, refl, arith}, lemmas.Bool.and_parts}, specs.List.list_all}
use Rattle.qr_bits.specs.{declared.{modes.{Mode.Mode, Rule.Rule}, segmentation.Segment.Segment}, Segmentation.IsLeastSegmentation}
use Rattle.qr_bits.specs.declared.interpretation.Interpretation.{Interpretation, TheVariants.{Default, Gs1, Eci}}
use Rattle.qr_bits.specs.{Interpretation.{character_for, characters_gs1, doubled_gs1, is_doubled}, Steps.{RunState.is_gs1, Segmentation.is_itself}}

-- a byte that is written as itself
itself : (x : ℕ) (m : Mode) → is_itself x ≡ true → (is_doubled Gs1 x m ≡ false) × (character_for Gs1 x m ≡ x)
itself x m h = grind arith

-- The characters of bytes that are written as themselves are these bytes, and so are their modes.
pub themselves : (xs : List ℕ) (ms : List Mode) → list_all is_itself xs ≡ true → (doubled_gs1 xs ms ≡ ms) × (characters_gs1 xs ms ≡ xs)
unfolding doubled_gs1 characters_gs1
themselves [] ms h = (refl, refl)
themselves (x ∷ xs) [] h = (refl, refl)
themselves (x ∷ xs) (m ∷ ms) h = search (arith, itself, themselves xs ms (and_parts (is_itself x) (list_all is_itself xs) h).1)

-- if each byte is written as itself, the least segmentation is the same as without an interpretation
pub least-interpreted : (i : Interpretation) (v : ℕ) (r : Rule) (xs : List ℕ) (segs : List Segment) → (is_gs1 i && not (list_all is_itself xs)) ≡ false → IsLeastSegmentation Default v r xs xs segs → IsLeastSegmentation i v r xs xs segs
least-interpreted Default v r xs segs w h = h
least-interpreted (Eci n) v r xs segs w h = search arith
least-interpreted Gs1 v r xs segs w h = search (arith, themselves, themselves xs h.0 (search arith))
