-- A sheet shows one margin and one list of squares at most.
use Rattle.qr_drawing.{proofs.Facts.{is_dark_at_above, is_dark_at-inside}, specs.{Drawing.HaveOneSide, Raster.{is_dark_at, raster_width}, Svg.square_at}}
use Rattle.qr_drawing.specs.declared.drawing.Drawing.{Drawing, TheVariants.{Ascii, AsciiInverse, Utf8, Svg}}
use Rattle.qr_matrix.{proofs.Facts.square-same, specs.{Bytes.byte_of, Grid.{Grid, colour, light, square}}}
use Rattle.qr_parsing.specs.{Parsing.{BeginsAsSymbol, IsDrawingOf}, Steps.Sheet.{ShowsOn, is_dark_on, HasPlaces, index_of, is_dark_byte, is_sign}}
use Rattle.std.proofs.Common.{◌≡◌, ◌≤◌, ◌<◌, ◌+◌, ◌-◌, ◌*◌, ◌∙◌, ℕ, zero, suc, true, false, List, length, sym, ap, subst, arith, get_or}
use Rattle.std.proofs.Math.Nat.{mul-le-mul, add-mul, mul-le-mul_right}
use Rattle.std.{proofs.lemmas.List.{ext_get_or, get_or-append_right, get_or-take, get_or_append_left, length-take-le, Elements.All-get_or}, specs.List.All}
use borrow.Rule.Slice.PartMut.{put_mid}

-- a product of numbers that are at most a and b
pub small : (x y a b : ℕ) → x ≤ a → y ≤ b → x * y ≤ a * b
small x y a b l m = mul-le-mul l m

-- each square begins as a symbol
pub begins-at : (squares : List Grid) (k : ℕ) → All BeginsAsSymbol squares → k < length squares → BeginsAsSymbol (square_at squares k)
begins-at squares k all lt = All-get_or BeginsAsSymbol squares k (light 0) lt all

-- the rasters of squares of one side are equally wide
pub one-width : (margin k : ℕ) (squares : List Grid) → HaveOneSide squares → k < length squares
    → raster_width margin (square_at squares k) ≡ raster_width margin (square_at squares 0)
one-width margin k squares one lt = omega (arith, All-get_or)

-- in this module, `text` is a drawing
module _ (kind : Drawing) (margin : ℕ) (squares : List Grid) (text : List ℕ) (h : IsDrawingOf kind margin squares text) where
  -- the raster of the first square is 8 to 687 modules wide
  pub raster-wide : (8 ≤ raster_width margin (square_at squares 0)) × (raster_width margin (square_at squares 0) ≤ 687)
  raster-wide = let f = begins-at squares 0 h.begin h.some in let m = h.margin_in in (omega (arith, f.least), omega (arith, f.most))

-- column 7 of row 0 of the first raster is light
pub separator-light : (margin : ℕ) (squares : List Grid) (kind : Drawing) (text : List ℕ) → IsDrawingOf kind margin squares text
    → is_dark_at margin (square_at squares 0) 0 7 ≡ false
separator-light zero squares kind text h =
    let b = begins-at squares 0 h.begin h.some in
    is_dark_at-inside 0 0 7 (square_at squares 0) (omega (arith, b.least)) (omega (arith, b.least)) ∙ b.separator
separator-light (suc margin) squares kind text h = omega (arith, is_dark_at_above)

-- a sheet also shows the squares if its width, number of rasters and bytes are replaced by equal ones
pub shows-by : (kind : Drawing) (w v n m : ℕ) (a b : List ℕ) (margin : ℕ) (squares : List Grid) → w ≡ v → n ≡ m → a ≡ b
    → ShowsOn kind w n a margin squares → ShowsOn kind v m b margin squares
shows-by kind w v n m a b margin squares e f g h = search arith

-- in this module, the sheet shows these squares
module _ (kind : Drawing) (width count : ℕ) (bytes : List ℕ) (margin : ℕ) (squares : List Grid)
    (some : 0 < length squares) (one : HaveOneSide squares) (begin : All BeginsAsSymbol squares)
    (shows : ShowsOn kind width count bytes margin squares) where
  -- the first module of the diagonal after the margin is dark
  pub corner-dark : is_dark_on kind width bytes 0 margin margin ≡ true
  corner-dark =
      let f = begins-at squares 0 begin some in
      let w = shows.width_is in
      let n = shows.count_is in
      let e : margin + 0 ≡ margin = omega arith in
      shows.places 0 margin margin (omega arith) (omega (arith, f.least)) (omega (arith, f.least))
      ∙ (ap (λ z. is_dark_at margin (square_at squares 0) z z) (sym e) ∙ (is_dark_at-inside margin 0 0 (square_at squares 0) (omega (arith, f.least)) (omega (arith, f.least)) ∙ f.corner))

  -- the modules of the diagonal in the margin are light
  pub diagonal-light : (i : ℕ) → i < margin → is_dark_on kind width bytes 0 i i ≡ false
  diagonal-light i lt =
      let f = begins-at squares 0 begin some in
      let w = shows.width_is in
      let n = shows.count_is in
      shows.places 0 i i (omega arith) (omega arith) (omega arith) ∙ is_dark_at_above margin i i (square_at squares 0) lt

  -- each square consists of the modules that the sheet has for it
  pub square-on : (k : ℕ) → k < length squares → square_at squares k ≡ square (width - 2 * margin) (λ r c. is_dark_on kind width bytes k (margin + r) (margin + c))
  square-on k lt =
      let g = square_at squares k in
      let b = begins-at squares k begin lt in
      let w = shows.width_is in
      let n = shows.count_is in
      let same : g.side ≡ (square_at squares 0).side = All-get_or (λ g. g.side ≡ (square_at squares 0).side) squares k (light 0) lt one in
      let side : width - 2 * margin ≡ g.side = omega arith in
      b.whole ∙ (ap (λ s. square s (colour g)) (sym side)
      ∙ square-same (width - 2 * margin) (colour g) (λ r c. is_dark_on kind width bytes k (margin + r) (margin + c))
      (λ r c l m. sym (shows.places k (margin + r) (margin + c) (omega arith) (omega arith) (omega arith) ∙ is_dark_at-inside margin r c g (omega arith) (omega arith))))

-- two margins that a sheet shows are one
pub one-margin : (kind : Drawing) (width count : ℕ) (bytes : List ℕ) (m n : ℕ) (s t : List Grid)
    → 0 < length s → 0 < length t → HaveOneSide s → HaveOneSide t → All BeginsAsSymbol s → All BeginsAsSymbol t
    → ShowsOn kind width count bytes m s → ShowsOn kind width count bytes n t → (m < n → ⊥)
one-margin kind width count bytes m n s t a b o p x y f g lt =
    let e : true ≡ false = sym (corner-dark kind width count bytes m s a o x f) ∙ diagonal-light kind width count bytes n t b p y g m lt in
    cc

-- two lists of squares that a sheet shows are one
pub one-sheet : (kind : Drawing) (width count : ℕ) (bytes : List ℕ) (m n : ℕ) (s t : List Grid)
    → 0 < length s → 0 < length t → HaveOneSide s → HaveOneSide t → All BeginsAsSymbol s → All BeginsAsSymbol t
    → ShowsOn kind width count bytes m s → ShowsOn kind width count bytes n t → (m ≡ n) × (s ≡ t)
one-sheet kind width count bytes m n s t a b o p x y f g =
    let e : m ≡ n = omega (arith, one-margin kind width count bytes m n s t a b o p x y f g, one-margin kind width count bytes n m t s b a p o y x g f) in (
      e,
      ext_get_or (light 0) s t (sym f.count_is ∙ g.count_is) (λ i l. square-on kind width count bytes m s a o x f i l
          ∙ (ap (λ z. square (width - 2 * z) (λ r c. is_dark_on kind width bytes i (z + r) (z + c))) e
          ∙ sym (square-on kind width count bytes n t b p y g i (omega arith)))),
    )

-- Rows of a sheet, whose modules are written as bytes.

-- if the next row is put after the rows before it, all these rows are there
pub rows-more : (side row n : ℕ) (xs ys : List ℕ) (byte : ℕ → ℕ → ℕ) → length ys ≡ side → row * side + side ≤ length xs
    → ((r c : ℕ) → r < row → c < side → get_or xs (r * side + c) 0 ≡ byte r c) → ((c : ℕ) → c < side → get_or ys c 0 ≡ byte row c)
    → (r c : ℕ) → r < row + 1 → c < side → get_or (put_mid (row * side) n xs ys) (r * side + c) 0 ≡ byte r c
rows-more side row n xs ys byte long fits before here r c l m =
    search (arith, length-take-le, add-mul, mul-le-mul_right, get_or_append_left, get_or-take, get_or-append_right)

-- ---- rows by types of drawing

-- in this type of drawing the bytes of a row of modules are `step` bytes apart, and `signs` are the two bytes that a
-- dark module can have
pub record ReadsBy (kind : Drawing) (step y : ℕ) (signs : ℕ × ℕ) : Type 0 where
  pub steps : (w k m x : ℕ) → index_of kind w k y (m + x) ≡ index_of kind w k y m + step * x
  pub dark : (b : ℕ) → is_sign signs b ≡ is_dark_byte kind y b

pub ascii-reads : (kind : Drawing) (y : ℕ) (signs : ℕ × ℕ) → kind ≡ Ascii
    → ((b : ℕ) → is_sign signs b ≡ is_dark_byte Ascii y b) → ReadsBy kind 2 y signs
ascii-reads kind y signs e dark = subst (λ k. ReadsBy k 2 y signs) (sym e) (record { steps = search arith; dark = dark })

pub inverse-reads : (kind : Drawing) (y : ℕ) (signs : ℕ × ℕ) → kind ≡ AsciiInverse
    → ((b : ℕ) → is_sign signs b ≡ is_dark_byte AsciiInverse y b) → ReadsBy kind 2 y signs
inverse-reads kind y signs e dark = subst (λ k. ReadsBy k 2 y signs) (sym e) (record { steps = search arith; dark = dark })

pub block-reads : (kind : Drawing) (y : ℕ) (signs : ℕ × ℕ) → kind ≡ Utf8
    → ((b : ℕ) → is_sign signs b ≡ is_dark_byte Utf8 y b) → ReadsBy kind 1 y signs
block-reads kind y signs e dark = subst (λ k. ReadsBy k 1 y signs) (sym e) (record { steps = search arith; dark = dark })

pub svg-reads : (kind : Drawing) (y : ℕ) (signs : ℕ × ℕ) → kind ≡ Svg
    → ((b : ℕ) → is_sign signs b ≡ is_dark_byte Svg y b) → ReadsBy kind 1 y signs
svg-reads kind y signs e dark = subst (λ k. ReadsBy k 1 y signs) (sym e) (record { steps = search arith; dark = dark })

-- in this module, a row of the raster k is read
module _ (kind : Drawing) (step y : ℕ) (signs : ℕ × ℕ) (reads : ReadsBy kind step y signs) (w k m first : ℕ) (bytes : List ℕ) (is : first ≡ index_of kind w k y m) where
  index-is : (x : ℕ) → first + step * x ≡ index_of kind w k y (m + x)
  index-is x = ap (λ n. n + step * x) is ∙ sym (reads.steps w k m x)

  -- each module of the row has a byte
  pub row-inside : (count side : ℕ) → HasPlaces kind w count bytes → k < count → y < w → m + side ≤ w → (i : ℕ) → i < side → first + step * i < length bytes
  row-inside count side whole a b c i l = let p = whole k y (m + i) a b (omega arith) in omega (arith, index-is i)

  -- the modules that are read have the colours of the sheet
  pub row-dark : (side : ℕ) (modules : List ℕ) → ((c : ℕ) → c < side → get_or modules c 0 ≡ byte_of (is_sign signs (get_or bytes (first + step * c) 0)))
      → (c : ℕ) → c < side → get_or modules c 0 ≡ byte_of (is_dark_on kind w bytes k y (m + c))
  unfolding is_dark_on
  row-dark side modules has c l = has c l ∙ ap byte_of (reads.dark (get_or bytes (first + step * c) 0) ∙ ap (λ z. is_dark_byte kind y (get_or bytes z 0)) (index-is c))
