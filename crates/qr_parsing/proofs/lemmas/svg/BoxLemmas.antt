-- The boxes of an SVG document are at its dark modules: each box is a run, and each dark module is in one.
use Rattle.std.proofs.Common.{◌≡◌, ◌≤◌, ◌<◌, ◌+◌, ◌-◌, ◌*◌, ◌∙◌, ◌++◌, ◌&&◌, leb, ltb, ℕ, zero, suc, Bool, true, false, cond, eqb, List, [], length, refl, sym, ap, subst, arith, append-nil, append_assoc}
use Rattle.std.{proofs.{lemmas.Bool.{eqb-true, false_from_ne_true, Decides.nat_tests}, Math.Bool.or-false}, specs.List.{prefix_len, range_with_len}}
use Rattle.std.proofs.lemmas.{Nat.same_from_place, List.Sums.{prefix_len-le-length, prefix_len_passes}, List.FromFn.{get_or-range_with_len, length-range_with_len}}
use Rattle.qr_matrix.{specs.Grid.Grid, proofs.Facts.{&&-left, &&-right}}
use Rattle.qr_drawing.{specs.Raster.{is_dark_at, raster_width, texts_below}, proofs.Facts.no-texts}
use Rattle.qr_drawing.specs.Svg.{begins_run, row_path, run_length, run_path, square_at, stack_path, symbol_path}
use Rattle.qr_parsing.{specs.Steps.Svg.{IsPath, is_in_boxes, numbers_after}, proofs.lemmas.{sheet.small, text.PlaceLemmas.texts-first}}
use Rattle.qr_parsing.proofs.lemmas.svg.NumberLemmas.{any-false, any-true, any_below, box-read, box_numbers, texts-boxes}

-- ---- runs

-- if more than d numbers from x on pass a test, the longest prefix that passes is longer than d
prefix-more : (p : ℕ → Bool) (x d n : ℕ) → d < n → ((k : ℕ) → x ≤ k → k ≤ x + d → p k ≡ true) → d < prefix_len p (range_with_len x n)
prefix-more p x d zero lt pass = absurd (omega arith)
prefix-more p x zero (suc n) lt pass = search arith
prefix-more p x (suc d) (suc n) lt pass =
    let h = prefix-more p (x + 1) d n (omega arith) (λ k a b. pass k (omega arith) (omega arith)) in search arith

-- a run begins at `from`, and is dark up to x
record RunTo (margin : ℕ) (g : Grid) (y x : ℕ) : Type 0 where
  from : ℕ
  before : from ≤ x
  begins : begins_run margin g y from ≡ true
  dark : (k : ℕ) → from ≤ k → k ≤ x → is_dark_at margin g y k ≡ true

-- the next dark place is in the same run, or begins another
run-next : (margin : ℕ) (g : Grid) (y x : ℕ) (b : Bool) → is_dark_at margin g y x ≡ b → (b ≡ true → RunTo margin g y x) → is_dark_at margin g y (suc x) ≡ true → RunTo margin g y (suc x)
unfolding begins_run
run-next margin g y x b e run dark = grind (arith, nat_tests)

-- a dark place is in a run that begins at it or to its left
run-start : (margin : ℕ) (g : Grid) (y x : ℕ) → is_dark_at margin g y x ≡ true → RunTo margin g y x
unfolding begins_run
run-start margin g y zero dark = search arith
run-start margin g y (suc x) dark = search (arith, run-next, run-start margin g y x)

-- the places of a run are dark
run-dark : (margin : ℕ) (g : Grid) (y x c : ℕ) → x ≤ c → c < x + run_length margin g y x → is_dark_at margin g y c ≡ true
unfolding run_length
run-dark margin g y x c le lt =
    let p = is_dark_at margin g y in
    let n = raster_width margin g - x in
    let l = prefix_len-le-length p (range_with_len x n) in
    let m = length-range_with_len x n in
    sym (ap p (get_or-range_with_len x n (c - x) 0 (omega arith) ∙ (omega arith))) ∙ prefix_len_passes p (range_with_len x n) (c - x) 0 (omega arith)

-- a run is no longer than the raster is wide
run-short : (margin : ℕ) (g : Grid) (y x : ℕ) → run_length margin g y x ≤ raster_width margin g - x
unfolding run_length
run-short margin g y x = search (arith, length-range_with_len, prefix_len-le-length)

-- ---- the boxes of all rasters, which are `width` wide

-- the place (r, c) of the document is in the box that begins at this place of the raster k
hits : (width margin r c k : ℕ) → Grid → ℕ → ℕ → Bool
hits width margin r c k g y x = begins_run margin g y x && (eqb (k * width + y) r && (leb x c && ltb c (x + run_length margin g y x)))

-- the numbers of the box that begins at this place, or no number if none begins there
run_numbers : (top margin : ℕ) → Grid → ℕ → ℕ → List ℕ
run_numbers top margin g y x = cond (begins_run margin g y x) (box_numbers x (top + y) (run_length margin g y x)) []

-- the numbers of all boxes
pub all_numbers : ℕ → List Grid → List ℕ
all_numbers margin squares = texts_below (length squares) (λ k. texts_below (raster_width margin (square_at squares k)) (λ y. texts_below (raster_width margin (square_at squares k)) (run_numbers (k * raster_width margin (square_at squares k)) margin (square_at squares k) y)))

-- if a relation holds of texts in pairs, and of one text after another, it holds of all texts together
texts-both : (R : List ℕ → List ℕ → Type 0) → R [] [] → ((a b c d : List ℕ) → R a b → R c d → R (a ++ c) (b ++ d))
    → (n : ℕ) (f g : ℕ → List ℕ) → ((k : ℕ) → k < n → R (f k) (g k)) → R (texts_below n f) (texts_below n g)
texts-both R none more zero f g h = rw (no-texts f, no-texts g) none
texts-both R none more (suc n) f g h =
    rw (texts-first n f, texts-first n g) (more _ _ _ _ (h 0 (omega arith)) (texts-both R none more n (λ i. f (suc i)) (λ i. g (suc i)) (λ k lt. h (suc k) (omega arith))))

-- so it holds of the path and the numbers of all boxes if it holds of those at each place
stack-both : (R : List ℕ → List ℕ → Type 0) → R [] [] → ((a b c d : List ℕ) → R a b → R c d → R (a ++ c) (b ++ d)) → (margin : ℕ) (squares : List Grid)
    → ((k : ℕ) → k < length squares → raster_width margin (square_at squares k) ≤ 687) → length squares ≤ 16
    → ((top : ℕ) (g : Grid) (y x : ℕ) → top + y ≤ 99999 → x ≤ 687 → raster_width margin g ≤ 687 → R (run_path top margin g y x) (run_numbers top margin g y x))
    → R (stack_path margin squares) (all_numbers margin squares)
unfolding stack_path symbol_path row_path all_numbers
stack-both R none more margin squares wide few each =
    texts-both R none more (length squares) _ _ (λ k lt. let g = square_at squares k in let w = wide k lt in
    texts-both R none more (raster_width margin g) _ _ (λ y in_y.
    texts-both R none more (raster_width margin g) _ _ (search (arith, small))))

-- the numbers that are read from the path are the numbers of all boxes
pub stack-read : (margin : ℕ) (squares : List Grid) (rest : List ℕ) → ((k : ℕ) → k < length squares → raster_width margin (square_at squares k) ≤ 687) → length squares ≤ 16
    → numbers_after 0 false (stack_path margin squares ++ rest) ≡ all_numbers margin squares ++ numbers_after 0 false rest
unfolding run_path run_numbers
stack-read margin squares rest wide few =
    stack-both (λ f g. (rest : List ℕ) → numbers_after 0 false (f ++ rest) ≡ g ++ numbers_after 0 false rest) (λ rest. refl)
    (search (arith, append_assoc))
    margin squares wide few (search (arith, run-short, box_numbers, box-read)) rest

-- the boxes of all squares, one after the other, are a path
pub stack-is-path : (margin : ℕ) (squares : List Grid) (bytes : List ℕ) → ((k : ℕ) → k < length squares → raster_width margin (square_at squares k) ≤ 687) → length squares ≤ 16
    → IsPath [] bytes → IsPath (all_numbers margin squares) (stack_path margin squares ++ bytes)
unfolding run_path run_numbers box_numbers
stack-is-path margin squares bytes wide few path =
    subst (λ n. IsPath n (stack_path margin squares ++ bytes)) (append-nil (all_numbers margin squares))
    (stack-both (λ f g. (numbers bytes : List ℕ) → IsPath numbers bytes → IsPath (g ++ numbers) (f ++ bytes)) (λ numbers bytes p. p)
    (search (arith, append_assoc))
    margin squares wide few (search (arith, run-short)) [] bytes path)

-- some box has the place
any_hits : (margin : ℕ) → List Grid → ℕ → ℕ → Bool
any_hits margin squares r c = any_below (length squares) (λ k. any_below (raster_width margin (square_at squares k)) (λ y. any_below (raster_width margin (square_at squares k)) (hits (raster_width margin (square_at squares k)) margin r c k (square_at squares k) y)))

-- a place is in one of all boxes exactly if some box has it
all-boxes : (margin : ℕ) (squares : List Grid) (r c : ℕ) → is_in_boxes (all_numbers margin squares) r c ≡ any_hits margin squares r c
unfolding all_numbers any_hits run_numbers hits box_numbers
all-boxes margin squares r c =
    let W = λ (k : ℕ). raster_width margin (square_at squares k) in
    let hit = λ (k y : ℕ). hits (W k) margin r c k (square_at squares k) y in
    ap (λ l. is_in_boxes l r c) (sym (append-nil (all_numbers margin squares)))
    ∙ (texts-boxes r c (length squares) (λ k. texts_below (W k) (λ y. texts_below (W k) (run_numbers (k * W k) margin (square_at squares k) y))) (λ k. any_below (W k) (λ y. any_below (W k) (hit k y)))
    (search (arith, texts-boxes, any_below, box_numbers)) []
    ∙ or-false (any_hits margin squares r c))

-- a place that a box has
record Hit (width margin r c k : ℕ) (g : Grid) (y x : ℕ) : Type 0 where
  row : k * width + y ≡ r
  from : x ≤ c
  to : c < x + run_length margin g y x

-- a box that has a place has it in its row and columns
hits-in : (width margin r c k : ℕ) (g : Grid) (y x : ℕ) → hits width margin r c k g y x ≡ true → Hit width margin r c k g y x
unfolding hits
hits-in width margin r c k g y x h = search (arith, &&-right, &&-left, eqb-true, nat_tests)

-- a dark module is in a box
boxes-on : (width margin : ℕ) (squares : List Grid) → ((k : ℕ) → k < length squares → raster_width margin (square_at squares k) ≡ width)
    → (k y x : ℕ) → k < length squares → y < width → x < width → is_dark_at margin (square_at squares k) y x ≡ true → any_hits margin squares (k * width + y) x ≡ true
unfolding any_hits run_length hits
boxes-on width margin squares same k y x in_k in_y in_x dark =
    let g = square_at squares k in
    let w = same k in_k in
    let s = run-start margin g y x dark in
    let le = s.before in
    let f : s.from + (x - s.from) ≡ x = omega arith in
    let long : x - s.from < prefix_len (is_dark_at margin g y) (range_with_len s.from (raster_width margin g - s.from)) =
    prefix-more (is_dark_at margin g y) s.from (x - s.from) (raster_width margin g - s.from) (omega arith) (λ k a b. s.dark k a (omega arith)) in
    any-true (length squares) k _ in_k (any-true (raster_width margin g) y _ (omega arith) (any-true (raster_width margin g) s.from _ (omega arith)
    (search (arith, nat_tests))))

-- a light module is in no box
boxes-off : (width margin : ℕ) (squares : List Grid) → ((k : ℕ) → k < length squares → raster_width margin (square_at squares k) ≡ width)
    → (k y x : ℕ) → k < length squares → y < width → x < width → is_dark_at margin (square_at squares k) y x ≡ false → any_hits margin squares (k * width + y) x ≡ false
unfolding any_hits
boxes-off width margin squares same k y x in_k in_y in_x light =
    any-false (length squares) _ (λ i in_i. any-false (raster_width margin (square_at squares i)) _ (λ z in_z. any-false (raster_width margin (square_at squares i)) _ (λ s in_s.
    false_from_ne_true _ (λ h.
    let g = square_at squares i in
    let hit = hits-in (raster_width margin g) margin (k * width + y) x i g z s h in
    let e : i * width + z ≡ k * width + y = ap (λ v. i * v + z) (sym (same i in_i)) ∙ hit.row in
    let place = same_from_place i z k y width (omega arith) in_y e in search (arith, run-dark)))))

-- a place is in a box exactly if its module is dark
pub boxes-dark : (width margin : ℕ) (squares : List Grid) → ((k : ℕ) → k < length squares → raster_width margin (square_at squares k) ≡ width)
    → (k y x : ℕ) → k < length squares → y < width → x < width → is_in_boxes (all_numbers margin squares) (k * width + y) x ≡ is_dark_at margin (square_at squares k) y x
boxes-dark width margin squares same k y x in_k in_y in_x = all-boxes margin squares (k * width + y) x ∙ shade (is_dark_at margin (square_at squares k) y x) refl
  where
    shade : (b : Bool) → is_dark_at margin (square_at squares k) y x ≡ b → any_hits margin squares (k * width + y) x ≡ b
    shade true dark = boxes-on width margin squares same k y x in_k in_y in_x dark
    shade false light = boxes-off width margin squares same k y x in_k in_y in_x light
