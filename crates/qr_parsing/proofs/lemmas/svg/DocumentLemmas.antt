-- The sheet of an SVG document.
use Rattle.std.proofs.Common.{◌≡◌, ◌≤◌, ◌<◌, ◌+◌, ◌*◌, ◌/◌, ◌%◌, ◌∙◌, ◌++◌, ℕ, true, false, cond, List, ◌∷◌, length, get_or, drop, refl, sym, ap, subst, arith, append_assoc, append-nil}
use Rattle.std.proofs.{Math.Nat.mul-div_cancel_left, lemmas.Nat.{div-mul-add, mod-mul-add}, lemmas.List.FromFn.get_or-map-range_with_len}
use Rattle.std.specs.Prelude.{codes, decimal}
use Rattle.qr_matrix.specs.Grid.{Grid}
use Rattle.qr_drawing.specs.{Raster.{is_dark_at, raster_width}, Svg.{background, closing, declaration, foreground, numbered, opening, square_at, stack_path, svg_document}}
use Rattle.qr_drawing.specs.declared.drawing.Drawing.TheVariants.{Svg}
use Rattle.qr_parsing.specs.{Parsing.IsDrawingOf, Steps.Sheet.{ShowsOn, bytes_in, count_in, is_dark_byte, is_dark_on, kind_in, width_in}, Steps.Svg.{IsPath, is_in_boxes, numbers_after, numbers_in, painted_bytes, path_in}}
use Rattle.qr_parsing.proofs.lemmas.{sheet.{one-width, raster-wide, shows-by, small}, svg.{BoxLemmas.{all_numbers, boxes-dark, stack-is-path, stack-read}, NumberLemmas.number-read, PathLemmas.{decimal-passed, path-from}}, text.PlaceLemmas.place-in}

-- the numbers before the boxes
head_numbers : ℕ → ℕ → List ℕ → List ℕ
head_numbers w h rest = 1 ∷ 0 ∷ 8 ∷ 3 ∷ 2000 ∷ 1 ∷ 1 ∷ 0 ∷ 0 ∷ w ∷ h ∷ 0 ∷ 0 ∷ w ∷ h ∷ 0 ∷ rest

-- a document consists of these parts, between which its numbers stand
document-split : (w h : ℕ) (path : List ℕ) →
    declaration ++ opening w h ++ background w h ++ (codes "<path fill=\"#000000\" d=\"" ++ path ++ codes "\"/>\n") ++ closing
    ≡ (codes "<?xml version=\"1.0\" encoding=\"UTF-8\"?>\n" ++ codes "<svg xmlns=\"http://www.w3.org/2000/svg\" version=\"1.1\" viewBox=\"0 0 ") ++ (decimal w ++ (codes " " ++ (decimal h
    ++ ((codes "\" shape-rendering=\"crispEdges\">\n" ++ codes "<rect x=\"0\" y=\"0\" width=\"") ++ (decimal w ++ (codes "\" height=\"" ++ (decimal h
    ++ ((codes "\" fill=\"#ffffff\"/>\n" ++ codes "<path fill=\"#000000\" d=\"") ++ (path ++ (codes "\"/>\n" ++ codes "</svg>\n"))))))))))
unfolding declaration opening background closing numbered
document-split w h path =
    regroup (codes "<?xml version=\"1.0\" encoding=\"UTF-8\"?>\n") (codes "<svg xmlns=\"http://www.w3.org/2000/svg\" version=\"1.1\" viewBox=\"0 0 ") (decimal w) (codes " ") (decimal h)
    (codes "\" shape-rendering=\"crispEdges\">\n") (codes "<rect x=\"0\" y=\"0\" width=\"") (codes "\" height=\"") (codes "\" fill=\"#ffffff\"/>\n") (codes "<path fill=\"#000000\" d=\"") path (codes "\"/>\n") (codes "</svg>\n")
  where
    regroup : (a b w c h d e f i j path k l : List ℕ) → a ++ ((b ++ w) ++ (c ++ h) ++ d) ++ ((e ++ w) ++ (f ++ h) ++ i) ++ (j ++ path ++ k) ++ l
        ≡ (a ++ b) ++ (w ++ (c ++ (h ++ ((d ++ e) ++ (w ++ (f ++ (h ++ ((i ++ j) ++ (path ++ (k ++ l))))))))))
    regroup a b w c h d e f i j path k l = simp append_assoc

-- the numbers of a document are those before the boxes, and then those of the boxes
document-read : (w h : ℕ) (path numbers : List ℕ) → w ≤ 99999 → h ≤ 99999
    → ((rest : List ℕ) → numbers_after 0 false (path ++ rest) ≡ numbers ++ numbers_after 0 false rest)
    → numbers_in (declaration ++ opening w h ++ background w h ++ (codes "<path fill=\"#000000\" d=\"" ++ path ++ codes "\"/>\n") ++ closing) ≡ head_numbers w h numbers
unfolding head_numbers numbers_after
document-read w h path numbers a b read =
    let end = codes "\"/>\n" ++ codes "</svg>\n" in
    let last = decimal h ++ ((codes "\" fill=\"#ffffff\"/>\n" ++ codes "<path fill=\"#000000\" d=\"") ++ (path ++ end)) in
    let back = decimal w ++ (codes "\" height=\"" ++ last) in
    let second = decimal h ++ ((codes "\" shape-rendering=\"crispEdges\">\n" ++ codes "<rect x=\"0\" y=\"0\" width=\"") ++ back) in
    let some = λ (n : ℕ) (l : List ℕ). n ∷ l in
    ap (numbers_after 0 false) (document-split w h path)
    ∙ ap (λ l. 1 ∷ 0 ∷ 8 ∷ 3 ∷ 2000 ∷ 1 ∷ 1 ∷ 0 ∷ 0 ∷ l) (search (arith, number-read, append-nil))

-- the path of a document is from its first `M` on
document-path : (w h : ℕ) (path : List ℕ) → w ≤ 99999 → h ≤ 99999
    → path_in (declaration ++ opening w h ++ background w h ++ (codes "<path fill=\"#000000\" d=\"" ++ path ++ codes "\"/>\n") ++ closing) ≡ path_in (path ++ (codes "\"/>\n" ++ codes "</svg>\n"))
document-path w h path a b = search (arith, document-split, decimal-passed)

-- in this module, `text` is a drawing
module _ (margin : ℕ) (squares : List Grid) (text : List ℕ) (h : IsDrawingOf Svg margin squares text) where
  wide : ℕ
  wide = raster_width margin (square_at squares 0)

  high : ℕ
  high = wide * length squares

  wide-in : (8 ≤ wide) × (wide ≤ 687)
  unfolding wide
  wide-in = raster-wide Svg margin squares text h

  -- the numbers in the document are those of the definition, with the numbers of all boxes
  numbers : numbers_in text ≡ head_numbers wide high (all_numbers margin squares)
  unfolding wide high svg_document foreground
  numbers =
      let w = wide-in in
      let few = h.few in
      let bound : wide * length squares ≤ 687 * 16 = small wide (length squares) 687 16 w.1 few in
      ap numbers_in h.is_drawn
      ∙ document-read wide high (stack_path margin squares) (all_numbers margin squares) (omega arith) (omega arith)
      (λ rest. stack-read margin squares rest (λ k lt. let e = one-width margin k squares h.one_side lt in omega arith) few)

  painted : List ℕ
  painted = painted_bytes wide high (all_numbers margin squares)

  -- all rasters are as wide
  same : (k : ℕ) → k < length squares → raster_width margin (square_at squares k) ≡ wide
  unfolding wide
  same k lt = one-width margin k squares h.one_side lt

  -- the painted byte of a module is 1 if it is dark, and 0 if it is light
  at : (k y x : ℕ) → k < length squares → y < wide → x < wide
      → get_or painted ((k * wide + y) * wide + x) 0 ≡ cond (is_dark_at margin (square_at squares k) y x) 1 0
  unfolding painted high
  at k y x a b c =
      let w = wide in
      let n = length squares in
      let i = (k * w + y) * w + x in
      let row = place-in n w k y a b in
      let place = place-in (n * w) w (k * w + y) x row c in
      let within : i < w * (w * n) = omega arith in
      let nums = all_numbers margin squares in
      let dark = boxes-dark w margin squares same k y x a b c in
      get_or-map-range_with_len (λ i. cond (is_in_boxes nums (i / w) (i % w)) 1 0) 0 (w * (w * n)) i i 0 within (omega arith)
      ∙ ((λ t. cond (is_in_boxes nums (div-mul-add (k * w + y) w x c t) (mod-mul-add (k * w + y) w x c t)) 1 0) ∙ ap (λ d. cond d 1 0) dark)

  -- the painted bytes show the squares with this margin
  shows : ShowsOn Svg wide (length squares) painted margin squares
  unfolding is_dark_on wide
  shows = record {
    width_is = refl;
    count_is = refl;
    places = λ k y x a b c. ap (is_dark_byte Svg y) (at k y x a b c) ∙ elim (is_dark_at margin (square_at squares k) y x) as (λ d. is_dark_byte Svg y (cond d 1 0) ≡ d) [ true ↦ refl | false ↦ refl ];
  }

  width-is : wide ≡ width_in Svg text
  unfolding head_numbers
  width-is = sym (ap (λ l. get_or l 9 0) numbers)

  height-is : high ≡ get_or (numbers_in text) 10 0
  unfolding head_numbers
  height-is = sym (ap (λ l. get_or l 10 0) numbers)

  -- the number of squares is the height of the document divided by its width
  count-is : length squares ≡ count_in Svg text
  unfolding high
  count-is =
      let w = wide-in in
      let some : 0 < wide = omega arith in
      sym (mul-div_cancel_left (length squares) some) ∙ (λ i. height-is i / width-is i)

  bytes-are : painted ≡ bytes_in Svg text
  unfolding painted head_numbers
  bytes-are = let nums : all_numbers margin squares ≡ drop 16 (numbers_in text) = sym (ap (drop 16) numbers) in λ i. painted_bytes (width-is i) (height-is i) (nums i)

  pub svg-sheet : ShowsOn Svg (width_in Svg text) (count_in Svg text) (bytes_in Svg text) margin squares
  svg-sheet = shows-by Svg wide (width_in Svg text) (length squares) (count_in Svg text) painted (bytes_in Svg text) margin squares width-is count-is bytes-are shows

  -- the path of the document has the numbers from the index 16 on
  pub svg-path : IsPath (drop 16 (numbers_in text)) (path_in text)
  unfolding head_numbers wide high svg_document foreground
  svg-path =
      let w = wide-in in
      let few = h.few in
      let end = codes "\"/>\n" ++ codes "</svg>\n" in
      let bound : wide * length squares ≤ 687 * 16 = small wide (length squares) 687 16 w.1 few in
      let is : path_in text ≡ path_in (stack_path margin squares ++ end) = ap path_in h.is_drawn ∙ document-path wide high (stack_path margin squares) (omega arith) (omega arith) in
      let path = stack-is-path margin squares end (λ k lt. let e = one-width margin k squares h.one_side lt in omega arith) few refl in
      let nums : all_numbers margin squares ≡ drop 16 (numbers_in text) = sym (ap (drop 16) numbers) in
      subst (λ n. IsPath n (path_in text)) nums (subst (IsPath (all_numbers margin squares)) (sym is) (path-from (all_numbers margin squares) (stack_path margin squares ++ end) path))

  pub svg-kind : kind_in text ≡ Svg
  unfolding svg_document declaration
  svg-kind = rw h.is_drawn refl
