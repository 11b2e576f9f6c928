-- What the code finds is all that a text can show.
use Rattle.std.{proofs.Common.{◌≡◌, ◌≤◌, ◌<◌, ◌+◌, ◌-◌, ◌*◌, ◌∙◌, ℕ, Bool, true, false, List, map, sym, ap, subst, arith, ◌⊎◌}, specs.List.range_with_len}
use Rattle.std.proofs.lemmas.List.FromFn.{fill_by_all, get_or-map-range_with_len, length-map-range_with_len}
use Rattle.qr_matrix.{specs.Grid.{Grid, light, square}, proofs.Facts.{colour-square, square-same}}
use Rattle.qr_drawing.specs.declared.drawing.Drawing.{Drawing, TheVariants.{Ascii, AsciiInverse, Utf8, Svg}}
use Rattle.qr_parsing.specs.{Parsing.{IsDrawingOf, IsNoDrawing}, Steps.{Parsing.CanBeDrawn, Sheet.{HasNoSheet, IsSheetOf, ShowsOn, bytes_in, count_in, is_dark_on, kind_in, width_in}}}
use Rattle.qr_parsing.proofs.lemmas.{sheet.{begins-at, corner-dark, diagonal-light, shows-by, square-on}, svg.DocumentLemmas.{svg-kind, svg-sheet}}
use Rattle.qr_parsing.proofs.lemmas.text.{AsciiLemmas.{inverse-kind, inverse-sheet, plain-kind, plain-sheet}, HalfBlockLemmas.{block-kind, block-sheet}}

-- the type that is computed from a drawing is its type
pub kind-shown : (kind : Drawing) (margin : ℕ) (squares : List Grid) (text : List ℕ) → IsDrawingOf kind margin squares text → kind_in text ≡ kind
kind-shown kind margin squares text h = grind (arith, plain-kind, inverse-kind, block-kind, svg-kind)

-- the sheet of a drawing shows its squares
pub sheet-shown : (kind : Drawing) (margin : ℕ) (squares : List Grid) (text : List ℕ) → IsDrawingOf kind margin squares text
    → ShowsOn kind (width_in kind text) (count_in kind text) (bytes_in kind text) margin squares
sheet-shown Ascii margin squares text h = plain-sheet margin squares text h
sheet-shown AsciiInverse margin squares text h = inverse-sheet margin squares text h
sheet-shown Utf8 margin squares text h = block-sheet margin squares text h
sheet-shown Svg margin squares text h = svg-sheet margin squares text h

-- a text that would be narrower or wider than any drawing has no sheet
pub too-wide : (text : List ℕ) (kind : Drawing) (width : ℕ) → kind_in text ≡ kind → width ≡ width_in kind text → (width < 8) ⊎ (687 < width) → HasNoSheet text
too-wide text kind width e f h = search arith

-- a text without a sheet is no drawing
pub none-wide : (text : List ℕ) → HasNoSheet text → IsNoDrawing text
none-wide text wide kind margin squares h =
    let shown = sheet-shown kind margin squares text h in search (arith, kind-shown, begins-at)

-- a drawing of the type k, with the margin m and the squares s, is what the code guessed
pub record Guessed (kind : Drawing) (width count : ℕ) (bytes : List ℕ) (margin : ℕ) (k : Drawing) (m : ℕ) (s : List Grid) : Type 0 where
  pub kind_is : k ≡ kind
  pub margin_is : m ≡ margin
  pub margin_most : m ≤ 255
  pub least : 2 * m + 8 ≤ width
  pub most : width ≤ 2 * m + 177
  pub some : 0 < count
  pub few : count ≤ 16
  pub squares_are : s ≡ map (λ k. square (width - 2 * margin) (λ r c. is_dark_on kind width bytes k (margin + r) (margin + c))) (range_with_len 0 count)

-- if the text is a drawing at all, its type, margin and squares are those that the code guessed
pub guessed : (kind : Drawing) (width count : ℕ) (bytes : List ℕ) (margin : ℕ) (text : List ℕ) → IsSheetOf kind width count bytes text
    → ((i : ℕ) → i < margin → is_dark_on kind width bytes 0 i i ≡ false) → (margin < width → is_dark_on kind width bytes 0 margin margin ≡ true)
    → (k : Drawing) (m : ℕ) (s : List Grid) → IsDrawingOf k m s text → Guessed kind width count bytes margin k m s
guessed kind width count bytes margin text is light_before dark k m s h =
    let e : k ≡ kind = sym (kind-shown k m s text h) ∙ sym is.kind_is in
    let P : Drawing → Type 0 = λ z. ShowsOn z (width_in z text) (count_in z text) (bytes_in z text) m s in
    let at_kind : P kind = subst P e (sheet-shown k m s text h) in
    let shows = shows-by kind (width_in kind text) width (count_in kind text) count (bytes_in kind text) bytes m s (sym is.width_is) (sym is.count_is) (sym (is.bytes_is k m s h)) at_kind in
    let b = begins-at s 0 h.begin h.some in
    let n = shows.count_is in
    let below : m < margin → ⊥ = λ lt. let x : true ≡ false = sym (corner-dark kind width count bytes m s h.some h.one_side h.begin shows) ∙ light_before m lt in cc in
    let above : margin < m → ⊥ = λ lt. let x : true ≡ false = sym (dark (omega arith)) ∙ diagonal-light kind width count bytes m s h.some h.one_side h.begin shows margin lt in cc in
    let f : m ≡ margin = omega arith in
    record {
      kind_is = e;
      margin_is = f;
      margin_most = h.margin_in;
      least = omega arith;
      most = omega arith;
      some = omega arith;
      few = omega arith;
      squares_are = fill_by_all (λ k. square (width - 2 * margin) (λ r c. is_dark_on kind width bytes k (margin + r) (margin + c))) s count (light 0) (sym n)
          (λ i lt. square-on kind width count bytes m s h.some h.one_side h.begin shows i (omega arith)
          ∙ ap (λ z. square (width - 2 * z) (λ r c. is_dark_on kind width bytes i (z + r) (z + c))) f);
    }

-- squares of one side can be drawn
pub can-be-drawn : (side count : ℕ) (f : ℕ → ℕ → ℕ → Bool) (squares : List Grid) → squares ≡ map (λ k. square side (f k)) (range_with_len 0 count) → 0 < count → count ≤ 16 → CanBeDrawn squares
can-be-drawn side count f squares e some few =
    search (arith, length-map-range_with_len, get_or-map-range_with_len, square-same, colour-square)
