-- The series of symbols of the bytes `x` at version `v` and level `l`. In the standard the feature that makes such a
-- series is Structured Append (8). `rule` determines the allowed modes, and `i` how the bytes are to be interpreted.
use Rattle.std.specs.Prelude.{◌≡◌, ◌⊎◌, ℕ, ◌+◌, ◌-◌, ◌<◌, ◌≤◌, List, [], ◌∷◌, length, take, drop, map, Option, None, Some}
use Rattle.std.specs.List.{All, concat}
use Rattle.qr_layout.specs.declared.level.Level.{Level}
use Rattle.qr_bits.specs.declared.modes.Rule.{Rule}
use Rattle.qr_bits.specs.declared.stream.Header.{Header}
use Rattle.qr_bits.specs.declared.interpretation.Interpretation.{Interpretation}
use Rattle.qr_bits.specs.Segmentation.{HasFit, IsLongestFit}
use Rattle.qr_bits.specs.Padding.{room_of}
use Rattle.qr_bits.specs.Header.{parity_of}
use Rattle.qr_symbol.specs.declared.symbol.Symbol.{Symbol}
use Rattle.qr_matrix.specs.Grid.{Grid}
use Rattle.qr_symbol.specs.Encoding.{IsSymbolAt}
use Rattle.qr_symbol.specs.VersionChoice.{FitsVersion}

-- The squares of the symbols, in the order of the symbols [own]
abbrev pub squares_of : List Symbol → List Grid
squares_of symbols = map (λ s. s.matrix) symbols

-- The given list has the parts into which `x` is cut, and none of them is empty. Each part begins where the part before
-- it ends, and is the longest possible part that fits a symbol with a structured append header [own]
unfoldable pub AreParts : ℕ → Level → Rule → Interpretation → List ℕ → List (List ℕ) → Type 0
AreParts v l rule i x [] = x ≡ []
AreParts v l rule i x (p ∷ ps) = (n : ℕ) × (0 < n) × IsLongestFit i v rule x (room_of v l i) n × (p ≡ take n x)
    × AreParts v l rule i (drop n x) ps

-- The parts, one after the other, make up `x`, and each fits a symbol with a structured append header. Unlike in
-- `AreParts`, a part may be empty, and need not be the longest that fits [own]
abbrev pub FitParts : ℕ → Level → Rule → Interpretation → List ℕ → List (List ℕ) → Type 0
FitParts v l rule i x parts = (x ≡ concat parts) × All (λ p. HasFit i v rule p (room_of v l i)) parts

-- In whatever way `x` is cut into parts that fit symbols with structured append headers, there are at least `n` parts
-- [own]
abbrev pub NeedsParts : ℕ → Level → Rule → Interpretation → List ℕ → ℕ → Type 0
NeedsParts v l rule i x n = (parts : List (List ℕ)) → FitParts v l rule i x parts → n ≤ length parts

-- `s` is the symbol of version `v` and level `l` that contains the structured append header `h`, if there is one, and
-- the bytes `x`. The mask of this symbol is the one with the least penalty (ISO/IEC 18004:2015, 7.1, 8.1)
pub record IsSymbolOf (v : ℕ) (l : Level) (rule : Rule) (i : Interpretation) (x : List ℕ) (h : Option Header) (s : Symbol) : Type 0 where
  pub version : s.version ≡ v
  pub level : s.level ≡ l
  pub made : IsSymbolAt v l rule i x h s.mask s.matrix

-- There are as many symbols as parts. Each symbol contains its part, and a header with the numbers `last` and `parity`.
-- The header of the first symbol has the position `k`, and from each symbol to the next the position rises by 1
-- (ISO/IEC 18004:2015, 8.1 to 8.3)
unfoldable pub AreSymbolsFrom : ℕ → Level → Rule → Interpretation → (last parity k : ℕ) → List (List ℕ) → List Symbol → Type 0
AreSymbolsFrom v l rule i last parity k [] [] = Unit {0}
AreSymbolsFrom v l rule i last parity k [] (s ∷ ss) = ⊥
AreSymbolsFrom v l rule i last parity k (p ∷ ps) [] = ⊥
AreSymbolsFrom v l rule i last parity k (p ∷ ps) (s ∷ ss) =
    IsSymbolOf v l rule i p (Some (record { position = k; last = last; parity = parity })) s
    × AreSymbolsFrom v l rule i last parity (k + 1) ps ss

-- `x` does not fit one symbol without a header. It is cut into at most 16 parts, and `symbols` are the symbols of these
-- parts, in order. The header of each symbol has the symbol's position (counted from 0), the number of symbols less 1,
-- and the parity data of `x` [own]
pub record IsSplit (v : ℕ) (l : Level) (rule : Rule) (i : Interpretation) (x : List ℕ) (symbols : List Symbol) : Type 0 where
  pub too_long : FitsVersion v l rule i x → ⊥
  pub parts : List (List ℕ)
  pub split : AreParts v l rule i x parts
  pub many : length parts ≤ 16
  pub made : AreSymbolsFrom v l rule i (length parts - 1) (parity_of x) 0 parts symbols

-- `x` fits one symbol without a header, and `symbols` contains this symbol alone [own]
pub record IsPlainSymbol (v : ℕ) (l : Level) (rule : Rule) (i : Interpretation) (x : List ℕ) (symbols : List Symbol) : Type 0 where
  pub fits : FitsVersion v l rule i x
  pub symbol : Symbol
  pub made : IsSymbolOf v l rule i x None symbol
  pub alone : symbols ≡ symbol ∷ []

-- `symbols` is the one symbol without a header if `x` fits it, and otherwise the list of the symbols of the parts of
-- `x` [own]
abbrev pub IsSeries : ℕ → Level → Rule → Interpretation → List ℕ → List Symbol → Type 0
IsSeries v l rule i x symbols = IsPlainSymbol v l rule i x symbols ⊎ IsSplit v l rule i x symbols

-- `x` has no series: it does not fit one symbol without a header, and it would be cut into more than 16 parts [own]
pub record HasNoSeries (v : ℕ) (l : Level) (rule : Rule) (i : Interpretation) (x : List ℕ) : Type 0 where
  pub too_long : FitsVersion v l rule i x → ⊥
  pub too_many : (parts : List (List ℕ)) → AreParts v l rule i x parts → 16 < length parts
