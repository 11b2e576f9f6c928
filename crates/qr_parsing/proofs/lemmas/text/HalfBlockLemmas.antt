-- The sheet of a UTF8 text.
use Rattle.std.proofs.Common.{◌≡◌, ◌≤◌, ◌<◌, ◌+◌, ◌*◌, ◌/◌, ◌%◌, ◌∙◌, ℕ, zero, suc, Bool, true, false, eqb, List, [], ◌∷◌, length, get_or, take, refl, sym, ap, arith}
use Rattle.std.proofs.{Math.Nat.{mul-div_cancel, mul-le-mul_right}, lemmas.Bool.Decides.nat_tests, lemmas.List.{get_or-take, length-take}}
use Rattle.std.specs.List.{filter, position_or_len}
use Rattle.qr_matrix.specs.Grid.{Grid}
use Rattle.qr_drawing.specs.{Raster.{is_dark_at, raster_width, texts_below}, Svg.square_at, Text.half_blocks, declared.drawing.Drawing.TheVariants.Utf8}
use Rattle.qr_drawing.proofs.Facts.{no-texts, texts_below-length}
use Rattle.qr_parsing.specs.{Parsing.IsDrawingOf, Steps.Sheet.{ShowsOn, bytes_in, count_in, index_of, is_dark_byte, is_dark_on, kind_in, width_in}, Steps.Text.{cells_in, first_line, is_cell}}
use Rattle.qr_parsing.proofs.lemmas.sheet.{raster-wide, separator-light, shows-by}
use Rattle.qr_parsing.proofs.lemmas.text.PlaceLemmas.{cell-at, cells-filter, cells-first, cells-length, cells-newline, cells_text, position-below, squares-text}

-- of the bytes of a character one is kept, the last
last-size : (u l : Bool) → length (filter is_cell (half_blocks u l)) ≡ 1
last-size u l = grind arith

-- the byte that is kept is no newline
last-newline : (u l : Bool) (j : ℕ) → j < length (filter is_cell (half_blocks u l)) → eqb (get_or (filter is_cell (half_blocks u l)) j 0) 10 ≡ false
last-newline u l j = none u l j
  where
    one : (j b : ℕ) → eqb b 10 ≡ false → j < 1 → eqb (get_or (b ∷ []) j 0) 10 ≡ false
    one zero b e lt = e
    one (suc j) b e lt = absurd (omega arith)

    none : (u l : Bool) (j : ℕ) → j < length (filter is_cell (half_blocks u l)) → eqb (get_or (filter is_cell (half_blocks u l)) j 0) 10 ≡ false
    none true true j = one j 32 refl
    none true false j = one j 0x84 refl
    none false true j = one j 0x80 refl
    none false false j = one j 0x88 refl

-- the byte that is kept shows the upper module, in an even row
upper-shown : (u l : Bool) (y : ℕ) → y % 2 ≡ 0 → is_dark_byte Utf8 y (get_or (filter is_cell (half_blocks u l)) 0 0) ≡ u
upper-shown u l y e = grind arith

-- the byte that is kept shows the lower module, in an odd row
lower-shown : (u l : Bool) (y : ℕ) → y % 2 ≡ 1 → is_dark_byte Utf8 y (get_or (filter is_cell (half_blocks u l)) 0 0) ≡ l
lower-shown u l y e = grind arith

-- a character has at most three bytes
most-bytes : (u l : Bool) → length (half_blocks u l) ≤ 3
most-bytes u l = grind arith

-- a character has at least one byte
first-byte : (u l : Bool) → 0 < length (half_blocks u l)
first-byte u l = grind arith

-- if the upper module is light, the first byte of the character is E2
light-byte : (l : Bool) → get_or (half_blocks false l) 0 0 ≡ 0xE2
light-byte l = grind arith

-- no character begins with the byte with which a document begins
first-other : (u l : Bool) → eqb (get_or (half_blocks u l) 0 0) 60 ≡ false
first-other u l = grind arith

-- in this module, `text` is a drawing
module _ (margin : ℕ) (squares : List Grid) (text : List ℕ) (h : IsDrawingOf Utf8 margin squares text) where
  wide : ℕ
  wide = raster_width margin (square_at squares 0)

  wide-in : 8 ≤ wide
  unfolding wide
  wide-in = (raster-wide Utf8 margin squares text h).0

  -- the character in column x of line y
  block : ℕ → ℕ → ℕ → List ℕ
  block k y x = half_blocks (is_dark_at margin (square_at squares k) (2 * y) x) (is_dark_at margin (square_at squares k) (2 * y + 1) x)

  -- the byte of this character that is kept
  last : ℕ → ℕ → ℕ → List ℕ
  last k y x = filter is_cell (half_blocks (is_dark_at margin (square_at squares k) (2 * y) x) (is_dark_at margin (square_at squares k) (2 * y + 1) x))

  size : (k y x : ℕ) → length (last k y x) ≡ 1
  unfolding last
  size k y x = search (arith, last-size)

  newline : (k y x j : ℕ) → j < length (last k y x) → eqb (get_or (last k y x) j 0) 10 ≡ false
  unfolding last
  newline k y x = search (arith, last-newline)

  -- the bytes that are kept of all cells
  whole : List ℕ
  whole = cells_text (length squares) ((wide + 1) / 2) wide last

  text-is : text ≡ cells_text (length squares) ((wide + 1) / 2) wide block
  unfolding wide block
  text-is = h.is_drawn ∙ squares-text (λ w. (w + 1) / 2) (λ g y x. half_blocks (is_dark_at margin g (2 * y) x) (is_dark_at margin g (2 * y + 1) x)) margin squares h.one_side

  cells-are : cells_in text ≡ whole
  unfolding whole last block
  cells-are = search (arith, text-is, cells-filter, wide, block)

  -- the byte in which a module is read is the one that is kept of its character
  at : (k y x : ℕ) → k < length squares → y < wide → x < wide
      → get_or whole (index_of Utf8 wide k y x) 0 ≡ get_or (last k (y / 2) x) 0 0
  unfolding whole
  at k y x a b c =
      let w = wide in
      let l = (wide + 1) / 2 in
      let e : (k * l + y / 2) * (w + 1) + x ≡ (k * l + y / 2) * (w * 1 + 1) + (x * 1 + 0) = omega arith in
      search (arith, cell-at, last, size)

  long : length whole ≡ length squares * ((wide + 1) / 2 * (wide * 1 + 1))
  unfolding whole
  long = cells-length (length squares) ((wide + 1) / 2) wide 1 last size

  -- the width that is computed from the text is that of a raster
  width-is : wide ≡ width_in Utf8 text
  unfolding whole
  width-is =
      let w = wide-in in
      let e = ap first_line cells-are ∙ cells-newline (length squares) ((wide + 1) / 2) wide 1 last size h.some (omega arith) newline in
      omega arith

  -- the number of squares that is computed from the text is that of the drawing
  count-is : length squares ≡ count_in Utf8 text
  count-is = search (arith, wide-in, wide, mul-le-mul_right, mul-div_cancel, cells-are, long, width-is)

  -- the last bytes of the cells show the squares with this margin
  shows : ShowsOn Utf8 wide (length squares) whole margin squares
  unfolding is_dark_on wide last
  shows = search (arith, at, upper-shown, lower-shown)

  pub block-sheet : ShowsOn Utf8 (width_in Utf8 text) (count_in Utf8 text) (bytes_in Utf8 text) margin squares
  block-sheet = search (arith, shows-by, wide, whole, width-is, count-is, cells-are, shows)

  -- the bytes of a character of the first line are in the text, after the characters before it
  in-line : (x j : ℕ) → x < wide → j < length (block 0 0 x)
      → (get_or text (length (texts_below x (block 0 0)) + j) 0 ≡ get_or (block 0 0 x) j 0) × (length (texts_below x (block 0 0)) + j < length text)
  in-line x j a b =
      let w = wide-in in
      let e = cells-first (length squares) ((wide + 1) / 2) wide x j block h.some (omega arith) a b in
      search (arith, text-is, block)

  -- the type that is computed from the text is UTF8, since the character in column 7 begins with E2
  pub block-kind : kind_in text ≡ Utf8
  unfolding block
  block-kind =
      let w = wide-in in
      let upper = λ (x : ℕ). is_dark_at margin (square_at squares 0) (2 * 0) x in
      let lower = λ (x : ℕ). is_dark_at margin (square_at squares 0) (2 * 0 + 1) x in
      let head = in-line 0 0 (omega arith) (first-byte (upper 0) (lower 0)) in
      let none : length (texts_below 0 (block 0 0)) + 0 ≡ 0 = omega (arith, ap length (no-texts (block 0 0))) in
      let first : eqb (get_or text 0 0) 60 ≡ false = ap (λ z. eqb (get_or text z 0) 60) (sym none) ∙ ap (λ z. eqb z 60) head.0 ∙ first-other (upper 0) (lower 0) in
      let before = length (texts_below 7 (block 0 0)) in
      let few : before ≤ 7 * 3 = texts_below-length 7 3 (block 0 0) (λ x. most-bytes (upper x) (lower x)) in
      let seven = in-line 7 0 (omega arith) (first-byte (upper 7) (lower 7)) in
      let light : get_or text (before + 0) 0 ≡ 0xE2 = seven.0 ∙ (ap (λ u. get_or (half_blocks u (lower 7)) 0 0) (separator-light margin squares Utf8 text h) ∙ light-byte (lower 7)) in
      let begin = take 22 text in
      let n = length-take 22 text in
      let found : position_or_len (λ byte. eqb byte 0xE2) begin < length begin = position-below 0xE2 (before + 0) begin (omega arith)
      (ap (λ z. eqb z 0xE2) (get_or-take 22 text (before + 0) 0 (omega arith) ∙ light)) in
      search (arith, nat_tests)
