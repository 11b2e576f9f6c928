-- The symbol of the bytes `x` at level `l`, with the square `g`. `rule` determines the allowed modes, and `i` how the
-- bytes are to be interpreted.
use Rattle.std.specs.Prelude.{◌≡◌, ℕ, List, Option, None}
use Rattle.qr_layout.specs.declared.level.Level.{Level}
use Rattle.qr_bits.specs.declared.modes.Rule.{Rule}
use Rattle.qr_bits.specs.declared.segmentation.Segment.{Segment}
use Rattle.qr_bits.specs.declared.stream.Header.{Header}
use Rattle.qr_bits.specs.Segmentation.{IsLeastSegmentation}
use Rattle.qr_bits.specs.Padding.{IsData}
use Rattle.qr_bits.specs.declared.interpretation.Interpretation.{Interpretation}
use Rattle.qr_matrix.specs.Grid.{Grid}
use Rattle.qr_symbol.specs.Symbol.{grid_of}
use Rattle.qr_symbol.specs.Interleaving.{IsInterleaved}
use Rattle.qr_symbol.specs.Choice.{IsMask}
use Rattle.qr_symbol.specs.VersionChoice.{IsHighestLevel, IsVersion}

-- `g` is the square of a symbol of version `v` and level `l`. The symbol contains the structured append header `h`, if
-- there is one, then the ECI header or FNC1 of the interpretation `i`, and then `x` in the segments of fewest bits. The
-- final sequence of the symbol's data codewords is drawn under `mask`, the mask with the least penalty (ISO/IEC
-- 18004:2015, 7.1, 7.4.2, 7.4.8.2, 8.1)
pub record IsSymbolAt (v : ℕ) (l : Level) (rule : Rule) (i : Interpretation) (x : List ℕ) (h : Option Header) (mask : ℕ) (g : Grid) : Type 0 where
  pub segments : List Segment
  pub characters : List ℕ
  pub chosen : IsLeastSegmentation i v rule x characters segments
  pub message : List ℕ
  pub written : IsData v l characters segments h i message
  pub codewords : List ℕ
  pub interleaved : IsInterleaved v l message codewords
  pub best : IsMask v l codewords mask
  pub drawn : g ≡ grid_of v l mask codewords

-- `g` is the square of the symbol of version `v` and level `l` that contains `x` without a structured append header,
-- and `mask` is the mask of this symbol. `v` is the least version, from `smallest` on, that `x` fits (ISO/IEC
-- 18004:2015, 7.1)
pub record IsSymbol (smallest : ℕ) (l : Level) (rule : Rule) (i : Interpretation) (x : List ℕ) (v mask : ℕ) (g : Grid) : Type 0 where
  pub version : IsVersion smallest l rule i x v
  pub made : IsSymbolAt v l rule i x None mask g

-- `g` is the square of the symbol of version `v` and level `k` that contains `x` without a structured append header,
-- and `mask` is the mask of this symbol. `v` is the least version, from `smallest` on, that `x` fits at level `l`, and
-- `k` is the highest level at which `x` fits this version [own]
pub record IsBoostedSymbol (smallest : ℕ) (l : Level) (rule : Rule) (i : Interpretation) (x : List ℕ) (v : ℕ) (k : Level) (mask : ℕ) (g : Grid) : Type 0 where
  pub version : IsVersion smallest l rule i x v
  pub level : IsHighestLevel v l rule i x k
  pub made : IsSymbolAt v k rule i x None mask g

-- Once the level, the smallest version, the rule and the interpretation are chosen, an input has at most one symbol:
-- one version, one mask and one square [own]
abbrev pub SymbolsAreOne : Type 0
SymbolsAreOne = (x : List ℕ) (l : Level) (smallest : ℕ) (rule : Rule) (i : Interpretation) (v w m n : ℕ) (g h : Grid)
    → IsSymbol smallest l rule i x v m g → IsSymbol smallest l rule i x w n h
    → (v ≡ w) × (m ≡ n) × (g ≡ h)

-- Once the lowest level, the smallest version, the rule and the interpretation are chosen, `IsBoostedSymbol` holds for
-- at most one symbol of an input: one version, one level, one mask and one square [own]
abbrev pub BoostedSymbolsAreOne : Type 0
BoostedSymbolsAreOne = (x : List ℕ) (l : Level) (smallest : ℕ) (rule : Rule) (i : Interpretation) (v w : ℕ) (k j : Level) (m n : ℕ) (g h : Grid)
    → IsBoostedSymbol smallest l rule i x v k m g → IsBoostedSymbol smallest l rule i x w j n h
    → (v ≡ w) × (k ≡ j) × (m ≡ n) × (g ≡ h)
