-- Numbers that are written digit by digit.
use Rattle.qr_drawing.{proofs.lemmas.text.LineLemmas.{texts_below-more, texts_below-none, texts_below-same, texts-of-items}, specs.Drawing.HaveOneSide}
use Rattle.qr_drawing.specs.{Raster.{is_dark_at, raster_width, texts_below}, Steps.Svg.{width_path, head}}
use Rattle.qr_drawing.specs.Svg.{numbered, background, begins_run, box_path, closing, declaration, foreground, opening, row_path, run_length, run_path, square_at, stack_path, svg_document, symbol_path, tail}
use Rattle.qr_drawing.specs.declared.svg.TheConstants.{SHORT_RUNS, TWO_DIGITS}
use Rattle.qr_matrix.{proofs.Facts.{below-at, AreRunsFrom, all-runs, other-runs, run-colours, run-in}, specs.{DarkRuns.AreDarkRuns, Grid.{Grid, colour, light}}}
use Rattle.qr_matrix.specs.{Sums.all_below, declared.dark_runs.Run.Run}
use Rattle.std.proofs.Common.{◌≡◌, ℕ, ◌+◌, ◌/◌, ◌%◌, ◌<◌, ◌≤◌, ◌^◌, List, [], ◌∷◌, ◌++◌, get_or, nat_eq, true, refl, sym, ◌∙◌, ap, append_assoc, arith, ◌-◌, ◌*◌, ◌&&◌, leb, ltb, zero, suc, Bool, false, length, map, append-nil, inl, inr, if◌then◌else◌}
use Rattle.std.proofs.{Math.Nat.suc-mul, lemmas.{Bool.{cases_lt, Decides.nat_tests}, Fmt.{decimal_digit, decimal_step}, List.{get_or-map, length-map}}}
use Rattle.std.{proofs.lemmas.List.Elements.All-get_or, specs.{Cmp.Lexicographic.{pointwise, same_text}, Fmt.digits}}
use Rattle.std.specs.{List.{flat_map, prefix_len, range_with_len}, Prelude.{decimal, codes}}

-- a number below 10 is written as one digit
pub one_digit : (h t : List ℕ) (n : ℕ) → n < 10 → t ≡ h ++ (48 + n) ∷ [] → t ≡ h ++ decimal n
one_digit h t n lt e = e ∙ ap (λ l. h ++ l) (sym (decimal_digit n lt))

-- a number from 10 on is written as the digits of its tenth, rounded down, and then its last digit
pub more_digits : (h s t : List ℕ) (n : ℕ) → 10 ≤ n → n < 2 ^ 64 → s ≡ h ++ decimal (n / 10) → t ≡ s ++ (48 + n % 10) ∷ [] → t ≡ h ++ decimal n
more_digits h s t n le small e f = search (arith, append_assoc, decimal_step)

-- the digits of each number in the table: computed
all-digits : all_below 100 (λ n. pointwise nat_eq (get_or TWO_DIGITS n []) ((48 + n / 10) ∷ (48 + n % 10) ∷ [])) ≡ true
all-digits = refl

-- the digits of a number in the table
pub digits-at : (n : ℕ) → n < 100 → get_or TWO_DIGITS n [] ≡ (48 + n / 10) ∷ (48 + n % 10) ∷ []
digits-at n lt =
    same_text _ _ (sym (below-at 100 (λ n. pointwise nat_eq (get_or TWO_DIGITS n []) ((48 + n / 10) ∷ (48 + n % 10) ∷ [])) all-digits n lt))

-- a number from 10 to 99 is written as two digits
pub two : (n : ℕ) → 10 ≤ n → n < 100 → decimal n ≡ (48 + n / 10) ∷ (48 + n % 10) ∷ []
two n le lt = search (arith, decimal_step, decimal_digit)

-- a number from 100 to 999 is written as three digits
pub three : (n : ℕ) → 100 ≤ n → n < 1000 → decimal n ≡ (48 + n / 100) ∷ (48 + n % 100 / 10) ∷ (48 + n % 100 % 10) ∷ []
three n le lt = search (arith, decimal_step, two)

-- what follows the row of each box of less than ten modules: computed
all-short : all_below 10 (λ n. pointwise nat_eq (get_or SHORT_RUNS n []) (width_path n)) ≡ true
unfolding width_path numbered digits
all-short = refl

-- what follows the row of a box of fewer than ten modules is in the table
pub short-at : (n : ℕ) → n < 10 → get_or SHORT_RUNS n [] ≡ width_path n
short-at n lt = same_text _ _ (sym (below-at 10 (λ n. pointwise nat_eq (get_or SHORT_RUNS n []) (width_path n)) all-short n lt))

-- Which paths are in the rows of a raster, and how they join while they are written.

-- a place of the symbol has its colour
pub is_dark_at-inside : (margin row col : ℕ) (g : Grid) → row < g.side → col < g.side
    → is_dark_at margin g (margin + row) (margin + col) ≡ colour g row col
unfolding is_dark_at
is_dark_at-inside margin row col g a b = search arith

-- the margin to the left is light
pub is_dark_at-left : (margin y x : ℕ) (g : Grid) → x < margin → is_dark_at margin g y x ≡ false
unfolding is_dark_at
is_dark_at-left margin y x g a = grind (arith, nat_tests)

-- the margin to the right is light
pub is_dark_at-right : (margin y x : ℕ) (g : Grid) → margin + g.side ≤ x → is_dark_at margin g y x ≡ false
unfolding is_dark_at
is_dark_at-right margin y x g a = grind (arith, nat_tests)

-- the margin above is light
pub is_dark_at_above : (margin y x : ℕ) (g : Grid) → y < margin → is_dark_at margin g y x ≡ false
unfolding is_dark_at
is_dark_at_above margin y x g a = grind (arith, nat_tests)

-- the margin below is light
pub is_dark_at_below : (margin y x : ℕ) (g : Grid) → margin + g.side ≤ y → is_dark_at margin g y x ≡ false
unfolding is_dark_at
is_dark_at_below margin y x g a = grind (arith, nat_tests)

-- the text that `box` makes of the run that begins in row `y` and column `x`, where `box` makes a text of the column and
-- the length of a run
unfoldable pub run_text : (ℕ → ℕ → List ℕ) → ℕ → Grid → ℕ → ℕ → List ℕ
run_text box margin g y x = if begins_run margin g y x then box x (run_length margin g y x) else []

-- the texts of the runs of a row
abbrev pub row_text : (ℕ → ℕ → List ℕ) → ℕ → Grid → ℕ → List ℕ
row_text box margin g y = texts_below (raster_width margin g) (run_text box margin g y)

-- no run begins at a light place
pub run_text-light : (box : ℕ → ℕ → List ℕ) (margin y x : ℕ) (g : Grid) → is_dark_at margin g y x ≡ false → run_text box margin g y x ≡ []
unfolding run_text begins_run
run_text-light box margin y x g e = rw e refl

-- no run begins to the right of a dark place
run_text-inner : (box : ℕ → ℕ → List ℕ) (margin y x : ℕ) (g : Grid) → 0 < x → is_dark_at margin g y (x - 1) ≡ true → run_text box margin g y x ≡ []
unfolding run_text begins_run
run_text-inner box margin y x g some dark = search arith

-- a run begins at a dark place if the place to its left is not dark
run_text-first : (box : ℕ → ℕ → List ℕ) (margin y x : ℕ) (g : Grid) → is_dark_at margin g y x ≡ true → (0 < x → is_dark_at margin g y (x - 1) ≡ false)
    → run_text box margin g y x ≡ box x (run_length margin g y x)
unfolding run_text begins_run
run_text-first box margin y x g dark light = search arith

-- if d numbers from x on pass a test and the next does not, the longest prefix that passes has the length d
prefix_len-range : (p : ℕ → Bool) (x d n : ℕ) → d ≤ n → ((k : ℕ) → x ≤ k → k < x + d → p k ≡ true) → (d < n → p (x + d) ≡ false)
    → prefix_len p (range_with_len x n) ≡ d
prefix_len-range p x zero zero le pass stop = refl
prefix_len-range p x zero (suc n) le pass stop = search arith
prefix_len-range p x (suc d) zero le pass stop = absurd (omega arith)
prefix_len-range p x (suc d) (suc n) le pass stop =
    let e : p x ≡ true = pass x (omega arith) (omega arith) in
    let f : x + 1 + d ≡ x + suc d = omega arith in
    rw (e, (prefix_len-range p (x + 1) d n (omega arith) (λ k a b. pass k (omega arith) (omega arith)) (λ lt. rw f (stop (omega arith))))) (omega arith)

-- the text that `box` makes of a run of a symbol
abbrev pub text_of : (ℕ → ℕ → List ℕ) → ℕ → Run → List ℕ
text_of box margin run = box (margin + run.start) (run.end - run.start)

-- the box around a run of row `row` of a symbol
abbrev pub box_of : ℕ → ℕ → ℕ → Run → List ℕ
box_of top margin row run = box_path (margin + run.start) (top + (margin + row)) (run.end - run.start)

-- the box by its numbers
pub box-is : (top margin row x y modules : ℕ) (run : Run) → x ≡ margin + run.start → y ≡ top + (margin + row) → modules ≡ run.end - run.start
    → box_path x y modules ≡ box_of top margin row run
box-is top margin row x y modules run ex ey em = λ i. box_path (ex i) (ey i) (em i)

-- in this module, `run` is the first of the runs of row `row` of a symbol from column `col` on
module _ (box : ℕ → ℕ → List ℕ) (margin row col : ℕ) (g : Grid) (run : Run) (runs : List Run) (row_in : row < g.side) (are : AreRunsFrom g row col (run ∷ runs)) where
  -- the run begins at column `col` or later, is not empty, and ends in the row
  at : (col ≤ run.start) × (run.start < run.end) × (run.end ≤ g.side)
  at = run-in g row col run runs are

  -- up to the end of the run, its places alone are dark
  here : (k : ℕ) → margin + col ≤ k → k ≤ margin + run.end → is_dark_at margin g (margin + row) k ≡ (leb (margin + run.start) k && ltb k (margin + run.end))
  here k a b = let w = at in elim (cases_lt k (margin + g.side)) [
    | inl lt ↦
        let e : margin + (k - margin) ≡ k = omega arith in
        ap (is_dark_at margin g (margin + row)) (sym e) ∙ (is_dark_at-inside margin row (k - margin) g row_in (omega arith)
        ∙ (run-colours g row col run runs are (k - margin) (omega arith) (omega arith) ∙ grind (arith, nat_tests)))
    | inr ge ↦ search (arith, is_dark_at-right)
  ]

  -- the places of the run are dark
  all-dark : (k : ℕ) → margin + run.start ≤ k → k < margin + run.end → is_dark_at margin g (margin + row) k ≡ true
  all-dark k a b = search (arith, at, here)

  -- the places before the run have no texts
  light-run : texts_below (margin + run.start) (run_text box margin g (margin + row)) ≡ texts_below (margin + col) (run_text box margin g (margin + row))
  light-run = search (arith, at, texts_below-same, run_text-light, here)

  -- the places after the run's first have no texts
  dark-run : texts_below (margin + run.end) (run_text box margin g (margin + row)) ≡ texts_below (margin + run.start + 1) (run_text box margin g (margin + row))
  dark-run = search (arith, at, texts_below-same, run_text-inner, all-dark)

  -- the length of the run is that of the definition
  dark-length : run_length margin g (margin + row) (margin + run.start) ≡ run.end - run.start
  unfolding run_length
  dark-length =
      let w = at in
      let e : margin + run.start + (run.end - run.start) ≡ margin + run.end = omega arith in
      prefix_len-range (is_dark_at margin g (margin + row)) _ _ _ (omega arith) (λ k a b. all-dark k a (omega arith)) (λ lt. rw e (here (margin + run.end) (omega arith) (omega arith) ∙ grind (arith, nat_tests)))

  -- the texts up to the end of the run are those up to column `col` and its text
  run-added : (0 < col → colour g row col ≡ false)
      → texts_below (margin + run.end) (run_text box margin g (margin + row)) ≡ texts_below (margin + col) (run_text box margin g (margin + row)) ++ text_of box margin run
  run-added light =
      search (arith, at, run_text-first, all-dark, here, run-colours, is_dark_at-left, dark-length, dark-run, texts_below-more, light-run)

-- there are no texts to the left of the symbol
row-begins : (box : ℕ → ℕ → List ℕ) (margin y : ℕ) (g : Grid) → texts_below (margin + 0) (run_text box margin g y) ≡ []
row-begins box margin y g = search (arith, texts_below-none, run_text-light, is_dark_at-left)

-- there are no texts in the rest of a row if that rest is light
row-ends : (box : ℕ → ℕ → List ℕ) (margin row col : ℕ) (g : Grid) → row < g.side → col ≤ g.side → ((c : ℕ) → col ≤ c → colour g row c ≡ false)
    → row_text box margin g (margin + row) ≡ texts_below (margin + col) (run_text box margin g (margin + row))
row-ends box margin row col g row_in le light =
    texts_below-same _ _ _ (omega arith)
    (λ k a b. run_text-light box margin (margin + row) k g (elim (cases_lt k (margin + g.side)) [
      | inl lt ↦
          let e : margin + (k - margin) ≡ k = omega arith in
          search (arith, is_dark_at-inside)
      | inr ge ↦ is_dark_at-right margin (margin + row) k g ge
    ]))

-- the texts of a row are those up to column `col` and those of the runs from there on
texts-from : (box : ℕ → ℕ → List ℕ) (margin row col : ℕ) (g : Grid) (runs : List Run) → row < g.side → col ≤ g.side → (0 < col → colour g row col ≡ false) → AreRunsFrom g row col runs
    → row_text box margin g (margin + row) ≡ texts_below (margin + col) (run_text box margin g (margin + row)) ++ flat_map (text_of box margin) runs
texts-from box margin row col g [] row_in le light are = search (arith, row-ends, append-nil)
texts-from box margin row col g (run ∷ runs) row_in le light are =
    let w = run-in g row col run runs are in
    texts-from box margin row run.end g runs row_in w.2 (λ _. run-colours g row col run runs are run.end (omega arith) (omega arith) ∙ grind (arith, nat_tests))
    (other-runs g row col run runs are)
    ∙ (ap (λ l. l ++ flat_map (text_of box margin) runs) (run-added box margin row col g run runs row_in are light)
    ∙ append_assoc _ (text_of box margin run) (flat_map (text_of box margin) runs))

-- the texts of a row are those of its runs
pub row-texts : (box : ℕ → ℕ → List ℕ) (margin row : ℕ) (g : Grid) (runs : List Run) → row < g.side → AreDarkRuns g row runs
    → row_text box margin g (margin + row) ≡ flat_map (text_of box margin) runs
row-texts box margin row g runs row_in are =
    texts-from box margin row 0 g runs row_in (omega arith) (λ some. absurd (omega arith)) (all-runs g row runs are)
    ∙ ap (λ l. l ++ flat_map (text_of box margin) runs) (row-begins box margin (margin + row) g)

-- the paths of a row are the boxes of its runs
pub row-boxes : (top margin row : ℕ) (g : Grid) (runs : List Run) → row < g.side → AreDarkRuns g row runs
    → row_path top margin g (margin + row) ≡ flat_map (box_of top margin row) runs
unfolding row_path run_path run_text
row-boxes top margin row g runs row_in are = row-texts (λ x modules. box_path x (top + (margin + row)) modules) margin row g runs row_in are

-- a light row has no paths
row_path-light : (top margin y : ℕ) (g : Grid) → ((x : ℕ) → is_dark_at margin g y x ≡ false) → row_path top margin g y ≡ []
unfolding row_path run_path run_text
row_path-light top margin y g none =
    texts_below-none (raster_width margin g) _ (λ x lt. run_text-light (λ x modules. box_path x (top + y) modules) margin y x g (none x))

-- there are no paths above the square of a symbol
pub symbol-begins : (top margin : ℕ) (g : Grid) → texts_below (margin + 0) (row_path top margin g) ≡ []
symbol-begins top margin g = search (arith, texts_below-none, row_path-light, is_dark_at_above)

-- there are no paths below the square of a symbol
pub symbol-ends : (top margin row : ℕ) (g : Grid) → row ≡ g.side → symbol_path top margin g ≡ texts_below (margin + row) (row_path top margin g)
unfolding symbol_path
symbol-ends top margin row g e = search (arith, texts_below-same, row_path-light, is_dark_at_below)

-- the square with the index k is that of the symbol with the index k
pub square_at-item : {T : Type 0} (grid : T → Grid) (xs : List T) (k : ℕ) (x : T) → k < length xs → x ≡ get_or xs k x → square_at (map grid xs) k ≡ grid x
square_at-item grid xs k x lt is = get_or-map grid xs k x (light 0) lt ∙ ap grid (sym is)

-- the rasters of symbols of one side are as wide as the first
pub one-width : {T : Type 0} (grid : T → Grid) (margin k : ℕ) (xs : List T) (x : T) → HaveOneSide (map grid xs) → k < length xs → x ≡ get_or xs k x
    → raster_width margin (grid x) ≡ raster_width margin (square_at (map grid xs) 0)
one-width grid margin k xs x one lt is =
    let n : length (map grid xs) ≡ length xs = length-map xs grid in
    cc (square_at-item grid xs k x lt is, (All-get_or (λ g. g.side ≡ (square_at (map grid xs) 0).side) (map grid xs) k (light 0) (omega arith) one))

-- the texts of a list of k symbols
pub texts-of-symbols : {T : Type 0} (grid : T → Grid) (text : Grid → List ℕ) (xs : List T) (k : ℕ) →
    k ≡ length xs → flat_map text (map grid xs) ≡ texts_below k (λ n. text (square_at (map grid xs) n))
texts-of-symbols grid text xs k e = cc (texts-of-items text (map grid xs) (light 0), length-map xs grid)

-- the paths of all symbols are the paths of the first k, if k is their number
pub stack-ends : {T : Type 0} (grid : T → Grid) (margin k : ℕ) (xs : List T) → k ≡ length xs → stack_path margin (map grid xs)
    ≡ texts_below k (λ n. symbol_path (n * raster_width margin (square_at (map grid xs) n)) margin (square_at (map grid xs) n))
unfolding stack_path
stack-ends grid margin k xs e = cc (length-map xs grid)

-- the path of the symbol with the index k is the path at its top
pub stack-at : {T : Type 0} (grid : T → Grid) (margin k top : ℕ) (xs : List T) (x : T) → HaveOneSide (map grid xs) → k < length xs → x ≡ get_or xs k x
    → top ≡ k * raster_width margin (square_at (map grid xs) 0)
    → symbol_path (k * raster_width margin (square_at (map grid xs) k)) margin (square_at (map grid xs) k) ≡ symbol_path top margin (grid x)
stack-at grid margin k top xs x one lt is e =
    cc (square_at-item grid xs k x lt is, one-width grid margin k xs x one lt is)

-- the top of the next symbol is the top of this one and its height
pub next-top : {T : Type 0} (grid : T → Grid) (margin k top width : ℕ) (xs : List T) (x : T) → HaveOneSide (map grid xs) → k < length xs → x ≡ get_or xs k x
    → top ≡ k * raster_width margin (square_at (map grid xs) 0) → width ≡ raster_width margin (grid x)
    → top + width ≡ (k + 1) * raster_width margin (square_at (map grid xs) 0)
next-top grid margin k top width xs x one lt is e f = grind (arith, suc-mul, f ∙ one-width grid margin k xs x one lt is)

-- a document is the same if its seven pieces are grouped as in the definition and as they are written
pieces : (a b c d e f g : List ℕ) → a ++ b ++ c ++ (d ++ e ++ f) ++ g ≡ ((a ++ b ++ c ++ d) ++ e) ++ (f ++ g)
pieces a b c d e f g = simp append_assoc

-- the document of this width and height
lines_of : ℕ → ℕ → ℕ → List Grid → List ℕ
lines_of width height margin squares =
    declaration ++ opening width height ++ background width height ++ foreground margin squares ++ closing

-- a document is its head, the path of all symbols, and its tail
pub document-parts : {T : Type 0} (grid : T → Grid) (margin width height : ℕ) (xs : List T) (x : T) →
    0 < length xs → width ≡ raster_width margin (grid (get_or xs 0 x)) → height ≡ width * length xs →
    svg_document margin (map grid xs) ≡ (head width height ++ stack_path margin (map grid xs)) ++ tail
unfolding svg_document foreground head tail lines_of
document-parts grid margin width height xs x some e f =
    cc (
      length-map xs grid,
      get_or-map grid xs 0 x (light 0) some,
      pieces declaration (opening width height) (background width height) (codes "<path fill=\"#000000\" d=\"") (stack_path margin (map grid xs)) (codes "\"/>\n") closing,
    )
