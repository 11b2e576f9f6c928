-- The bytes of texts by their index. A text consists of the texts of places, or of lines of cells.
use Rattle.qr_drawing.{proofs.Facts.{no-texts, texts_below-alike, texts-of-items}, specs.{Drawing.HaveOneSide, Raster.{raster_width, texts_below}}}
use Rattle.{qr_drawing.specs.Svg.square_at, qr_matrix.specs.Grid.{Grid, light}, qr_parsing.{proofs.lemmas.sheet.one-width, specs.Steps.Text.first_line}}
use Rattle.std.proofs.Common.{◌≡◌, ◌≤◌, ◌<◌, ◌+◌, ◌-◌, ◌*◌, ◌/◌, ◌∙◌, ◌++◌, ℕ, zero, suc, Bool, true, false, eqb, List, [], ◌∷◌, length, get_or, refl, ap, arith, inl, inr, length-append}
use Rattle.std.proofs.{Math.Nat.{suc-mul, mul-le-mul_right}, lemmas.{Bool.cases_lt, List.{get_or_append_left, get_or-append-add, get_or-append_right}}}
use Rattle.std.proofs.lemmas.List.{Elements.filter-append, Sums.{fails_before_first, position_or_len_is}}
use Rattle.std.specs.List.{filter, flat_map, position_or_len, range_with_len}

-- the texts from place a + 1 on are the texts of the next places from a on
shifted : (a n : ℕ) (f : ℕ → List ℕ) → flat_map f (range_with_len (a + 1) n) ≡ flat_map (λ i. f (suc i)) (range_with_len a n)
shifted a zero f = refl
shifted a (suc n) f = search (arith, shifted (a + 1) n f)

-- the texts of n + 1 places are the text of the first, and then those of the others
pub texts-first : (n : ℕ) (f : ℕ → List ℕ) → texts_below (suc n) f ≡ f 0 ++ texts_below n (λ i. f (suc i))
unfolding texts_below
texts-first n f = ap (λ l. f 0 ++ l) (shifted 0 n f)

-- n texts of one length are n times as long as one
pub texts-length : (n len : ℕ) (f : ℕ → List ℕ) → ((k : ℕ) → k < n → length (f k) ≡ len) → length (texts_below n f) ≡ n * len
texts-length zero len f h = ap length (no-texts f) ∙ omega arith
texts-length (suc n) len f h =
    let e = ap length (texts-first n f) ∙ length-append (f 0) (texts_below n (λ i. f (suc i))) in
    omega (arith, h 0 (omega arith), suc-mul n len, texts-length n len (λ i. f (suc i)) (λ k lt. h (suc k) (omega arith)))

-- byte j of the text i comes after the texts before it and j bytes of its own
pub text-after : (n i j : ℕ) (f : ℕ → List ℕ) → i < n → j < length (f i) → get_or (texts_below n f) (length (texts_below i f) + j) 0 ≡ get_or (f i) j 0
text-after zero i j f lt l = absurd (omega arith)
text-after (suc n) zero j f lt l = search (arith, no-texts, texts-first, get_or_append_left)
text-after (suc n) (suc i) j f lt l =
    let rest = texts_below i (λ i. f (suc i)) in
    let e : length (texts_below (suc i) f) + j ≡ length (f 0) + (length rest + j) = search (arith, texts-first, length-append) in
    rw (e, texts-first n f) (get_or-append-add (f 0) (texts_below n (λ i. f (suc i))) (length rest + j) 0
    ∙ text-after n i j (λ i. f (suc i)) (omega arith) l)

-- byte j of the text i is in all texts together
pub text-inside : (n i j : ℕ) (f : ℕ → List ℕ) → i < n → j < length (f i) → length (texts_below i f) + j < length (texts_below n f)
text-inside zero i j f lt l = absurd (omega arith)
text-inside (suc n) zero j f lt l = search (arith, no-texts, texts-first, length-append)
text-inside (suc n) (suc i) j f lt l =
    omega (
      arith,
      text-inside n i j (λ i. f (suc i)) (omega arith) l,
      ap length (texts-first i f) ∙ length-append (f 0) (texts_below i (λ i. f (suc i))),
      ap length (texts-first n f) ∙ length-append (f 0) (texts_below n (λ i. f (suc i))),
    )

-- if the texts have one length, byte j of the text i has the index i * len + j
pub text-at : (n len i j : ℕ) (f : ℕ → List ℕ) → ((k : ℕ) → k < n → length (f k) ≡ len) → i < n → j < len
    → get_or (texts_below n f) (i * len + j) 0 ≡ get_or (f i) j 0
text-at n len i j f h lt l = search (arith, texts-length, text-after)

-- a byte that is in none of the texts is not in all of them together
pub texts-without : (b n : ℕ) (f : ℕ → List ℕ) → ((k j : ℕ) → k < n → j < length (f k) → eqb (get_or (f k) j 0) b ≡ false)
    → (i : ℕ) → i < length (texts_below n f) → eqb (get_or (texts_below n f) i 0) b ≡ false
texts-without b zero f h i lt = search (arith, no-texts)
texts-without b (suc n) f h i lt =
    let rest = texts_below n (λ i. f (suc i)) in
    let e = ap length (texts-first n f) ∙ length-append (f 0) rest in
    rw (texts-first n f) (elim (cases_lt i (length (f 0))) [
      | inl l ↦ search (arith, get_or_append_left)
      | inr l ↦ ap (λ z. eqb z b) (get_or-append_right (f 0) rest (length (f 0)) i 0 refl l)
          ∙ texts-without b n (λ i. f (suc i)) (λ k j lt. h (suc k) j (omega arith)) (i - length (f 0)) (omega arith)
    ])

-- filtering all texts together is the same as filtering each
pub texts-filter : (p : ℕ → Bool) (n : ℕ) (f : ℕ → List ℕ) → filter p (texts_below n f) ≡ texts_below n (λ k. filter p (f k))
texts-filter p zero f = search (arith, no-texts)
texts-filter p (suc n) f =
    cc (
      texts-first n f,
      texts-first n (λ k. filter p (f k)),
      filter-append p (f 0) (texts_below n (λ i. f (suc i))),
      texts-filter p n (λ i. f (suc i)),
    )

-- byte j of the text i is among the bytes of n texts
pub place-in : (n len i j : ℕ) → i < n → j < len → i * len + j < n * len
place-in n len i j lt l = omega (arith, mul-le-mul_right len lt, suc-mul i len)

-- `count` squares of `lines` lines of `width` cells of `size` bytes each, with a newline after each line
unfoldable pub cells_text : (count lines width : ℕ) → (ℕ → ℕ → ℕ → List ℕ) → List ℕ
cells_text count lines width cell = texts_below count (λ k. texts_below lines (λ y. texts_below width (cell k y) ++ 10 ∷ []))

-- the texts of squares of one side are the text of their cells
pub squares-text : (lines : ℕ → ℕ) (cell : Grid → ℕ → ℕ → List ℕ) (margin : ℕ) (squares : List Grid) → HaveOneSide squares
    → flat_map (λ g. texts_below (lines (raster_width margin g)) (λ y. texts_below (raster_width margin g) (cell g y) ++ 10 ∷ [])) squares
    ≡ cells_text (length squares) (lines (raster_width margin (square_at squares 0))) (raster_width margin (square_at squares 0)) (λ k. cell (square_at squares k))
unfolding cells_text
squares-text lines cell margin squares one =
    let at = λ (w k : ℕ). texts_below (lines w) (λ y. texts_below w (cell (square_at squares k) y) ++ 10 ∷ []) in
    texts-of-items (λ g. texts_below (lines (raster_width margin g)) (λ y. texts_below (raster_width margin g) (cell g y) ++ 10 ∷ [])) squares (light 0)
    ∙ texts_below-alike (length squares) (λ k. at (raster_width margin (square_at squares k)) k) (at (raster_width margin (square_at squares 0)))
    (search (arith, one-width))

-- in this module, each cell has `size` bytes
module _ (count lines width size : ℕ) (cell : ℕ → ℕ → ℕ → List ℕ) (sizes : (k y x : ℕ) → length (cell k y x) ≡ size) where
  -- a line is as long as its cells and a newline
  line-length : (k y : ℕ) → length (texts_below width (cell k y) ++ 10 ∷ []) ≡ width * size + 1
  line-length k y = search (arith, length-append, texts-length)

  -- a square is as long as its lines
  square-length : (k : ℕ) → length (texts_below lines (λ y. texts_below width (cell k y) ++ 10 ∷ [])) ≡ lines * (width * size + 1)
  square-length k = search (arith, texts-length, line-length)

  -- the whole text is as long as its squares
  pub cells-length : length (cells_text count lines width cell) ≡ count * (lines * (width * size + 1))
  unfolding cells_text
  cells-length = search (arith, texts-length, square-length)

  -- this is where byte j of line y of the square k is
  line-at : (k y j : ℕ) → k < count → y < lines → j < width * size + 1
      → get_or (cells_text count lines width cell) ((k * lines + y) * (width * size + 1) + j) 0 ≡ get_or (texts_below width (cell k y) ++ 10 ∷ []) j 0
  unfolding cells_text
  line-at k y j a b c =
      let step = width * size + 1 in
      let e : (k * lines + y) * step + j ≡ k * (lines * step) + (y * step + j) = omega arith in
      rw e (text-at count (lines * step) k (y * step + j) (λ k. texts_below lines (λ y. texts_below width (cell k y) ++ 10 ∷ [])) (λ k lt. square-length k) a (place-in lines step y j b c)
      ∙ text-at lines step y j (λ y. texts_below width (cell k y) ++ 10 ∷ []) (λ y lt. line-length k y) b c)

  -- this is where byte j of the cell x of line y of the square k is
  pub cell-at : (k y x j : ℕ) → k < count → y < lines → x < width → j < size
      → get_or (cells_text count lines width cell) ((k * lines + y) * (width * size + 1) + (x * size + j)) 0 ≡ get_or (cell k y x) j 0
  cell-at k y x j a b c d =
      let in_line = place-in width size x j c d in
      search (arith, texts-length, line-at, get_or_append_left, text-at)

  -- the first line ends at the first newline
  pub cells-newline : 0 < count → 0 < lines → ((k y x j : ℕ) → j < length (cell k y x) → eqb (get_or (cell k y x) j 0) 10 ≡ false)
      → first_line (cells_text count lines width cell) ≡ width * size
  cells-newline some one none =
      let whole = cells_text count lines width cell in
      let l = texts-length width size (cell 0 0) (λ x lt. sizes 0 0 x) in
      let at = λ (j : ℕ) (lt : j < width * size + 1). let e : (0 * lines + 0) * (width * size + 1) + j ≡ j = omega arith in rw e at (line-at 0 0 j some one lt) in
      let step = width * size + 1 in
      let b : step ≤ lines * step = omega (arith, mul-le-mul_right step one) in
      let c : lines * step ≤ count * (lines * step) = omega (arith, mul-le-mul_right (lines * step) some) in
      position_or_len_is (λ byte. eqb byte 10) whole (width * size) 0 (omega (arith, cells-length))
      (λ k lt. rw (at k (omega arith)) (rw (get_or_append_left (texts_below width (cell 0 0)) (10 ∷ []) 0 k (omega arith))
      (texts-without 10 width (cell 0 0) (λ x j lt l. none 0 0 x j l) k (omega arith))))
      (λ lt. rw (at (width * size) (omega arith)) (let e : width * size ≡ length (texts_below width (cell 0 0)) + 0 = omega arith in
      search (arith, get_or-append-add)))

-- byte j of the cell x of the first line comes after the cells before it, whatever their sizes
pub cells-first : (count lines width x j : ℕ) (cell : ℕ → ℕ → ℕ → List ℕ) → 0 < count → 0 < lines → x < width → j < length (cell 0 0 x)
    → (get_or (cells_text count lines width cell) (length (texts_below x (cell 0 0)) + j) 0 ≡ get_or (cell 0 0 x) j 0)
    × (length (texts_below x (cell 0 0)) + j < length (cells_text count lines width cell))
unfolding cells_text
cells-first count lines width x j cell some one lt l =
    let at = length (texts_below x (cell 0 0)) + j in
    let cells = texts_below width (cell 0 0) in
    let line = λ (k y : ℕ). texts_below width (cell k y) ++ 10 ∷ [] in
    let inside : at < length cells = text-inside width x j (cell 0 0) lt l in
    let a : at < length (line 0 0) = omega (arith, length-append cells (10 ∷ [])) in
    let e : length (texts_below 0 (line 0)) + at ≡ at = omega (arith, ap length (no-texts (line 0))) in
    let b : at < length (texts_below lines (line 0)) = omega (arith, text-inside lines 0 at (line 0) one a) in
    search (arith, no-texts, text-after, get_or_append_left, text-inside count 0 at (λ k. texts_below lines (line k)) some b)

-- a byte that none of the cells has is in no line
pub cells-without : (b count lines width : ℕ) (cell : ℕ → ℕ → ℕ → List ℕ) → eqb 10 b ≡ false
    → ((k y x j : ℕ) → j < length (cell k y x) → eqb (get_or (cell k y x) j 0) b ≡ false)
    → (i : ℕ) → i < length (cells_text count lines width cell) → eqb (get_or (cells_text count lines width cell) i 0) b ≡ false
unfolding cells_text
cells-without b count lines width cell end none =
    texts-without b count (λ k. texts_below lines (λ y. texts_below width (cell k y) ++ 10 ∷ []))
    (λ k j lt l. texts-without b lines (λ y. texts_below width (cell k y) ++ 10 ∷ []) (λ y j lt l. line k y j l) j l)
  where
    line : (k y j : ℕ) → j < length (texts_below width (cell k y) ++ 10 ∷ []) → eqb (get_or (texts_below width (cell k y) ++ 10 ∷ []) j 0) b ≡ false
    line k y j l =
        let cells = texts_below width (cell k y) in
        elim (cases_lt j (length cells)) [
          | inl lt ↦ ap (λ z. eqb z b) (get_or_append_left cells (10 ∷ []) 0 j lt) ∙ texts-without b width (cell k y) (λ x j lt l. none k y x j l) j lt
          | inr ge ↦ let f : j ≡ length cells + 0 = omega (arith, length-append cells (10 ∷ [])) in rw (f, get_or-append-add cells (10 ∷ []) 0 0) end
        ]

-- a byte that is in a text has a first place
pub position-below : (b i : ℕ) (xs : List ℕ) → i < length xs → eqb (get_or xs i 0) b ≡ true → position_or_len (λ byte. eqb byte b) xs < length xs
position-below b i xs lt e = search (arith, fails_before_first)

-- if no byte of a text is b, the position of b is the length of the text
pub position-none : (b : ℕ) (xs : List ℕ) → ((i : ℕ) → i < length xs → eqb (get_or xs i 0) b ≡ false) → position_or_len (λ byte. eqb byte b) xs ≡ length xs
position-none b xs none = position_or_len_is (λ byte. eqb byte b) xs (length xs) 0 (omega arith) none (λ lt. absurd (omega arith))

-- filtering the text of cells is the same as filtering each cell, if the filter keeps newlines
pub cells-filter : (p : ℕ → Bool) (count lines width : ℕ) (cell : ℕ → ℕ → ℕ → List ℕ) → p 10 ≡ true
    → filter p (cells_text count lines width cell) ≡ cells_text count lines width (λ k y x. filter p (cell k y x))
unfolding cells_text
cells-filter p count lines width cell end = search (arith, texts-filter, texts_below-alike, filter-append)

-- the byte of each module of a whole raster is in the text
pub cell-inside : (len w lines count k y x : ℕ) → lines ≡ (w + 1) / 2 → count ≡ len / (lines * (w + 1)) → 8 ≤ w → k < count → y < w → x < w
    → (k * ((w + 1) / 2) + y / 2) * (w + 1) + x < len
cell-inside len w lines count k y x e f wide a b c = search (arith, mul-le-mul_right, place-in)
