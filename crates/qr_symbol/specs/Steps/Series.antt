-- The lengths of the parts into which `x` is cut for a series of version `v` and level `l`. `rule` determines the
-- allowed modes, and `i` how the bytes are to be interpreted.
use Rattle.std.specs.Prelude.{◌≡◌, ℕ, ◌<◌, List, [], ◌∷◌, take, drop}
use Rattle.qr_layout.specs.declared.level.Level.{Level}
use Rattle.qr_bits.specs.declared.modes.Rule.{Rule}
use Rattle.qr_bits.specs.declared.interpretation.Interpretation.{Interpretation}
use Rattle.qr_bits.specs.Segmentation.{IsLongestFit}
use Rattle.qr_bits.specs.Padding.{room_of}

-- The given list has the lengths of the parts into which `x` is cut. No part is empty. Each part begins where the part
-- before it ends, and is the longest possible part that fits a symbol with a structured append header.
unfoldable pub AreLengths : ℕ → Level → Rule → Interpretation → List ℕ → List ℕ → Type 0
AreLengths v l rule i x [] = x ≡ []
AreLengths v l rule i x (n ∷ ns) = (0 < n) × IsLongestFit i v rule x (room_of v l i) n × AreLengths v l rule i (drop n x) ns

-- The parts into which `x` is cut, one after the other, if they have the given lengths.
unfoldable pub parts_of : List ℕ → List ℕ → List (List ℕ)
parts_of x [] = []
parts_of x (n ∷ ns) = take n x ∷ parts_of (drop n x) ns
