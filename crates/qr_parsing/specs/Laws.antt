-- What the laws of parsing state.
use Rattle.std.specs.Prelude.{◌≡◌, ◌≤◌, ℕ, List, [], ◌∷◌}
use Rattle.qr_layout.specs.declared.level.Level.{Level}
use Rattle.qr_bits.specs.declared.modes.Rule.{Rule}
use Rattle.qr_bits.specs.declared.interpretation.Interpretation.{Interpretation}
use Rattle.qr_matrix.specs.Grid.{Grid}
use Rattle.qr_symbol.specs.declared.symbol.Symbol.{Symbol}
use Rattle.qr_symbol.specs.Encoding.{IsSymbol}
use Rattle.qr_symbol.specs.Series.{IsSeries, squares_of}
use Rattle.qr_drawing.specs.Drawing.{drawn}
use Rattle.qr_drawing.specs.declared.drawing.Drawing.{Drawing}
use Rattle.qr_parsing.specs.Parsing.{IsDrawingOf}

-- A text is the drawing of at most one list of squares, of at most one type and with at most one margin [own]
abbrev pub DrawingsAreOne : Type 0
DrawingsAreOne = (kind other : Drawing) (margin last : ℕ) (squares others : List Grid) (text : List ℕ)
    → IsDrawingOf kind margin squares text → IsDrawingOf other last others text
    → (kind ≡ other) × (margin ≡ last) × (squares ≡ others)

-- If the symbol of an input is drawn, the text is a drawing of this symbol in the sense of `IsDrawingOf`, and so it can
-- be parsed. This holds for each type of drawing, and for each margin of at most 255 modules [own]
abbrev pub SymbolsAreDrawings : Type 0
SymbolsAreDrawings = (kind : Drawing) (margin smallest : ℕ) (l : Level) (rule : Rule) (i : Interpretation) (x : List ℕ) (v mask : ℕ) (g : Grid)
    → margin ≤ 255 → 1 ≤ smallest → IsSymbol smallest l rule i x v mask g
    → IsDrawingOf kind margin (g ∷ []) (drawn kind margin (g ∷ []))

-- If the series of an input is drawn, the text is a drawing of this series in the sense of `IsDrawingOf`, and so it can
-- be parsed. This holds for each type of drawing, and for each margin of at most 255 modules [own]
abbrev pub SeriesAreDrawings : Type 0
SeriesAreDrawings = (kind : Drawing) (margin v : ℕ) (l : Level) (rule : Rule) (i : Interpretation) (x : List ℕ) (symbols : List Symbol)
    → margin ≤ 255 → 1 ≤ v → v ≤ 40 → IsSeries v l rule i x symbols
    → IsDrawingOf kind margin (squares_of symbols) (drawn kind margin (squares_of symbols))
