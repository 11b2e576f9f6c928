-- A text is one drawing at most, and those of symbols are parsed.
use Rattle.qr_bits.specs.declared.{interpretation.Interpretation.Interpretation, modes.Rule.Rule, stream.Header.Header}
use Rattle.qr_drawing.specs.{Drawing.{HaveOneSide, drawn}, declared.drawing.Drawing.Drawing}
use Rattle.qr_layout.specs.{Role.{pattern_colour, role_of}, Version.side_of, declared.level.Level.Level}
use Rattle.{qr_matrix.{proofs.Facts.{colour-square, square-same}, specs.Grid.{Grid, light}}, qr_parsing.proofs.lemmas.parsing.{kind-shown, sheet-shown}}
use Rattle.qr_parsing.{proofs.lemmas.sheet.one-sheet, specs.{Parsing.{BeginsAsSymbol, IsDrawingOf}, Steps.Sheet.{ShowsOn, bytes_in, count_in, width_in}}}
use Rattle.qr_symbol.{proofs.Facts.{series-few, series-side, series-some}, specs.Encoding.{IsSymbol, IsSymbolAt}}
use Rattle.qr_symbol.specs.{Series.{AreSymbolsFrom, IsSeries, squares_of}, Symbol.{colour_of, grid_of}, declared.symbol.Symbol.Symbol}
use Rattle.std.proofs.Common.{◌≡◌, ◌≤◌, ◌<◌, ◌+◌, ◌∙◌, ℕ, true, false, List, [], ◌∷◌, length, refl, sym, subst, arith, inl, inr, Option, None}
use Rattle.std.{proofs.lemmas.List.{length-map, Elements.{All-cons, All-nil}}, specs.List.All}

-- two drawings that are one text are of one type, margin and list of squares
pub one-drawing : (kind other : Drawing) (margin last : ℕ) (squares others : List Grid) (text : List ℕ)
    → IsDrawingOf kind margin squares text → IsDrawingOf other last others text
    → (kind ≡ other) × (margin ≡ last) × (squares ≡ others)
one-drawing kind other margin last squares others text g h =
    let e : kind ≡ other = sym (kind-shown kind margin squares text g) ∙ kind-shown other last others text h in
    let P : Drawing → Type 0 = λ k. ShowsOn k (width_in k text) (count_in k text) (bytes_in k text) last others in
    let one = one-sheet kind (width_in kind text) (count_in kind text) (bytes_in kind text) margin last squares others
    g.some h.some g.one_side h.one_side g.begin h.begin (sheet-shown kind margin squares text g) (subst P (sym e) (sheet-shown other last others text h)) in
    (e, one.0, one.1)

-- ---- symbols

-- the corner of a finder pattern is dark
corner : (v mask : ℕ) (l : Level) (cw : List ℕ) → 1 ≤ v → colour_of v l mask cw 0 0 ≡ true
unfolding colour_of role_of pattern_colour
corner v mask l cw some = search arith

-- the module in row 0 and column 7 is light, since it is in the separator of the finder pattern
separator : (v mask : ℕ) (l : Level) (cw : List ℕ) → 1 ≤ v → colour_of v l mask cw 0 7 ≡ false
unfolding colour_of role_of pattern_colour
separator v mask l cw some = search arith

-- the square that codewords make begins as a symbol
begins : (v mask : ℕ) (l : Level) (cw : List ℕ) → 1 ≤ v → v ≤ 40 → BeginsAsSymbol (grid_of v l mask cw)
begins v mask l cw some most = search (arith, square-same, colour-square, corner, separator)

-- the square of a symbol of an input begins as a symbol
begins-symbol : (v : ℕ) (l : Level) (rule : Rule) (how : Interpretation) (x : List ℕ) (h : Option Header) (mask : ℕ) (g : Grid) → 1 ≤ v → v ≤ 40 → IsSymbolAt v l rule how x h mask g → BeginsAsSymbol g
begins-symbol v l rule how x h mask g some most made = search (arith, begins)

-- the squares of the symbols of parts begin as symbols
begin-parts : (v : ℕ) (l : Level) (rule : Rule) (how : Interpretation) (last parity k : ℕ) (ps : List (List ℕ)) (ss : List Symbol) → 1 ≤ v → v ≤ 40 → AreSymbolsFrom v l rule how last parity k ps ss → All BeginsAsSymbol (squares_of ss)
unfolding AreSymbolsFrom
begin-parts v l rule how last parity k [] [] some most h = All-nil BeginsAsSymbol
begin-parts v l rule how last parity k [] (s ∷ ss) some most h = absurd h
begin-parts v l rule how last parity k (p ∷ ps) [] some most h = absurd h
begin-parts v l rule how last parity k (p ∷ ps) (s ∷ ss) some most h =
    search (arith, All-cons, begins-symbol, begin-parts v l rule how last parity (k + 1) ps ss some most h.1)

-- the squares of a series begin as symbols
begin-series : (v : ℕ) (l : Level) (rule : Rule) (how : Interpretation) (x : List ℕ) (ss : List Symbol) → 1 ≤ v → v ≤ 40 → IsSeries v l rule how x ss → All BeginsAsSymbol (squares_of ss)
begin-series v l rule how x ss some most (inl h) =
    subst (λ ts. All BeginsAsSymbol (squares_of ts)) (sym h.alone) (All-cons BeginsAsSymbol h.symbol.matrix [] (begins-symbol v l rule how x None h.symbol.mask h.symbol.matrix some most h.made.made) (All-nil BeginsAsSymbol))
begin-series v l rule how x ss some most (inr h) = search (arith, begin-parts)

-- squares that all have the side `side` are of one side
one-side : (side : ℕ) (squares : List Grid) → 0 < length squares → All (λ g. g.side ≡ side) squares → HaveOneSide squares
one-side side squares some all k d lt = all k d lt ∙ sym (all 0 (light 0) some)

-- the drawing of a symbol can be parsed, whatever its type and with each margin up to 255
pub symbol-drawing : (kind : Drawing) (margin smallest : ℕ) (l : Level) (rule : Rule) (how : Interpretation) (x : List ℕ) (v mask : ℕ) (g : Grid)
    → margin ≤ 255 → 1 ≤ smallest → IsSymbol smallest l rule how x v mask g → IsDrawingOf kind margin (g ∷ []) (drawn kind margin (g ∷ []))
symbol-drawing kind margin smallest l rule how x v mask g m some h =
    let least = h.version.least in
    record {
      some = omega arith;
      few = omega arith;
      margin_in = m;
      one_side = search (arith, one-side, All-cons, All-nil);
      begin = All-cons BeginsAsSymbol g [] (begins-symbol v l rule how x None mask g (omega arith) h.version.most h.made) (All-nil BeginsAsSymbol);
      is_drawn = refl;
    }

-- the drawing of a series can be parsed, whatever its type and with each margin up to 255
pub series-drawing : (kind : Drawing) (margin v : ℕ) (l : Level) (rule : Rule) (how : Interpretation) (x : List ℕ) (symbols : List Symbol)
    → margin ≤ 255 → 1 ≤ v → v ≤ 40 → IsSeries v l rule how x symbols → IsDrawingOf kind margin (squares_of symbols) (drawn kind margin (squares_of symbols))
series-drawing kind margin v l rule how x symbols m some most h =
    let n = length-map symbols (λ (s : Symbol). s.matrix) in
    let a = series-some x l rule how v symbols h in
    let b = series-few x l rule how v symbols h in
    record {
      some = omega arith;
      few = omega arith;
      margin_in = m;
      one_side = one-side (side_of v) (squares_of symbols) (omega arith) (series-side x l rule how v symbols h);
      begin = begin-series v l rule how x symbols some most h;
      is_drawn = refl;
    }
