-- The parts of documents for print.
use Rattle.qr_drawing.specs.{Drawing.HaveOneSide, Raster.{raster_width, texts_below}}
use Rattle.qr_documents.specs.{Document.{opening_rest, opening_start, size_in_mm, sized_svg}, Eps.{eps_boxes, eps_comments, eps_document, eps_end, eps_start}, Steps.Document.{eps_head, sized_head}}
use Rattle.qr_drawing.specs.Svg.{tail}
use Rattle.qr_documents.specs.Laws.{IsSizedAlone}
use Rattle.qr_drawing.specs.Svg.{background, closing, declaration, foreground, numbered, opening, square_at, stack_path, svg_document}
use Rattle.qr_documents.specs.Boxes.{symbol_lines}
use Rattle.qr_drawing.proofs.Facts.{one-width, square_at-item}
use Rattle.qr_matrix.specs.Grid.{Grid, light}
use Rattle.std.proofs.{Common.{◌≡◌, ◌∙◌, ap, ℕ, suc, ◌+◌, ◌-◌, ◌*◌, ◌<◌, List, ◌++◌, append_assoc, arith, get_or, length, map, refl}, Math.Nat.suc-mul}
use Rattle.std.proofs.lemmas.List.{get_or-map, length-map}
use Rattle.std.specs.Prelude.{codes}

-- a sized document is the same if its pieces are grouped as in the definition and as they are written
pieces : (a b c d e f g : List ℕ) → a ++ b ++ c ++ (d ++ e ++ f) ++ g ≡ ((a ++ b ++ c ++ d) ++ e) ++ (f ++ g)
pieces a b c d e f g = simp append_assoc

-- the SVG document of this width and height, with a size
sized_of : ℕ → ℕ → ℕ → ℕ → List Grid → List ℕ
sized_of micrometres width height margin squares =
    declaration ++ (opening_start ++ size_in_mm micrometres width height ++ opening_rest width height)
    ++ background width height ++ foreground margin squares ++ closing

-- an SVG document with a size is its head, the path of all symbols, and its tail
pub sized-parts : {T : Type 0} (grid : T → Grid) (margin micrometres width height : ℕ) (xs : List T) (x : T) →
    0 < length xs → width ≡ raster_width margin (grid (get_or xs 0 x)) → height ≡ width * length xs →
    sized_svg micrometres margin (map grid xs) ≡ (sized_head micrometres width height ++ stack_path margin (map grid xs)) ++ tail
unfolding sized_svg foreground sized_head tail sized_of
sized-parts grid margin micrometres width height xs x some e f =
    cc (
      length-map xs grid,
      get_or-map grid xs 0 x (light 0) some,
      pieces declaration (opening_start ++ size_in_mm micrometres width height ++ opening_rest width height) (background width height)
          (codes "<path fill=\"#000000\" d=\"") (stack_path margin (map grid xs)) (codes "\"/>\n") closing,
    )

-- the EPS document of this width and height
eps_of : ℕ → ℕ → ℕ → ℕ → List Grid → List ℕ
eps_of micrometres width height margin squares =
    eps_comments (width * micrometres) (height * micrometres) ++ eps_start micrometres width height ++ eps_boxes margin squares ++ eps_end

-- an EPS document is its head, its boxes and its end
pub eps-parts : {T : Type 0} (grid : T → Grid) (margin micrometres width height : ℕ) (xs : List T) (x : T) →
    0 < length xs → width ≡ raster_width margin (grid (get_or xs 0 x)) → height ≡ width * length xs →
    eps_document micrometres margin (map grid xs) ≡ (eps_head micrometres width height ++ eps_boxes margin (map grid xs)) ++ eps_end
unfolding eps_document eps_head eps_of
eps-parts grid margin micrometres width height xs x some e f =
    cc (
      length-map xs grid,
      get_or-map grid xs 0 x (light 0) some,
      append_assoc (eps_comments (width * micrometres) (height * micrometres)) (eps_start micrometres width height) (eps_boxes margin (map grid xs) ++ eps_end),
      append_assoc (eps_head micrometres width height) (eps_boxes margin (map grid xs)) eps_end,
    )

-- the lines of the symbol with the index k, counted from 0
abbrev pub lines_of_symbol : {T : Type 0} → (T → Grid) → ℕ → List T → ℕ → List ℕ
lines_of_symbol grid margin xs k =
    symbol_lines (codes " b\n") ((length xs - (k + 1)) * raster_width margin (square_at (map grid xs) k)) margin (square_at (map grid xs) k)

-- the boxes of all symbols are those of the first k, if k is their number
pub boxes-end : {T : Type 0} (grid : T → Grid) (margin k : ℕ) (xs : List T) → k ≡ length xs
    → eps_boxes margin (map grid xs) ≡ texts_below k (lines_of_symbol grid margin xs)
unfolding eps_boxes
boxes-end grid margin k xs e = rw (length-map xs grid, e) refl

-- the boxes of the symbol with the index k are above as many rows as the later symbols have
pub boxes-at : {T : Type 0} (grid : T → Grid) (margin k below width : ℕ) (xs : List T) (x : T) → HaveOneSide (map grid xs) → k < length xs → x ≡ get_or xs k x
    → width ≡ raster_width margin (square_at (map grid xs) 0) → below ≡ (length xs - (k + 1)) * width
    → lines_of_symbol grid margin xs k ≡ symbol_lines (codes " b\n") below margin (grid x)
boxes-at grid margin k below width xs x one lt is e f =
    cc (square_at-item grid xs k x lt is, one-width grid margin k xs x one lt is, e, f)

-- one symbol has its rows between those below it and those from it on
pub one-lower : (n k below width : ℕ) → k < n → below ≡ (n - k) * width → below ≡ (n - (k + 1)) * width + width
one-lower n k below width lt e =
    let f : n - k ≡ suc (n - (k + 1)) = omega arith in
    e ∙ (ap (λ m. m * width) f ∙ (suc-mul (n - (k + 1)) width ∙ omega arith))

-- the line that opens a document is its beginning and its rest
opening-is : (width height : ℕ) → opening width height ≡ opening_start ++ opening_rest width height
unfolding opening opening_start opening_rest numbered
opening-is width height = refl

-- an SVG document with a size is one without it, and its size
pub is-sized-alone : (micrometres margin : ℕ) (squares : List Grid) → IsSizedAlone micrometres margin squares
unfolding svg_document sized_svg
is-sized-alone micrometres margin squares =
    let width = raster_width margin (square_at squares 0) in
    let height = width * length squares in
    record {
      rest = opening_rest width height ++ (background width height ++ (foreground margin squares ++ closing));
      without = rw (opening-is width height) (simp append_assoc);
      sized = simp append_assoc;
    }
