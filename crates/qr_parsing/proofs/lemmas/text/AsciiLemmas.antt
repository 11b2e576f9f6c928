-- The sheet of an ASCII text, of both types alike.
use Rattle.std.proofs.Common.{◌≡◌, ◌≤◌, ◌<◌, ◌+◌, ◌*◌, ◌/◌, ◌∙◌, ◌++◌, not, cond, ℕ, Bool, false, eqb, List, [], ◌∷◌, length, get_or, take, refl, ap, arith}
use Rattle.std.proofs.{Math.Nat.{mul-div_cancel, mul-le-mul_right}, lemmas.Bool.Decides.nat_tests, lemmas.List.{get_or-take, length-take}}
use Rattle.std.specs.List.{flat_map, position_or_len}
use Rattle.qr_matrix.specs.Grid.{Grid}
use Rattle.qr_drawing.specs.{Raster.{is_dark_at, raster_width, texts_below}, Svg.square_at, Text.ascii_module, declared.drawing.Drawing.Drawing}
use Rattle.qr_drawing.specs.declared.drawing.Drawing.TheVariants.{Ascii, AsciiInverse}
use Rattle.qr_parsing.specs.{Parsing.IsDrawingOf, Steps.Sheet.{ShowsOn, bytes_in, count_in, index_of, is_dark_byte, is_dark_on, kind_in, width_in}, Steps.Text.first_line}
use Rattle.qr_parsing.proofs.lemmas.sheet.{raster-wide, separator-light, shows-by}
use Rattle.qr_parsing.proofs.lemmas.text.PlaceLemmas.{cell-at, cells-length, cells-newline, cells-without, cells_text, position-none, squares-text}

-- a module is two characters
module-size : (b : Bool) → length (ascii_module b) ≡ 2
module-size b = grind arith

-- a byte that is neither `#` nor a space is in no module
module-without : (sign : ℕ) → eqb 35 sign ≡ false → eqb 32 sign ≡ false → (b : Bool) (j : ℕ) → j < length (ascii_module b) → eqb (get_or (ascii_module b) j 0) sign ≡ false
module-without sign hash space b j lt = grind arith

-- a type of drawing whose text shows a module by `#` exactly if `hash` is true of its colour
pub record IsAscii (kind : Drawing) (hash : Bool → Bool) : Type 0 where
  pub place : (w k y x : ℕ) → index_of kind w k y x ≡ (k * w + y) * (2 * w + 1) + 2 * x
  pub width : (text : List ℕ) → width_in kind text ≡ first_line text / 2
  pub count : (text : List ℕ) → count_in kind text ≡ length text / (width_in kind text * (2 * width_in kind text + 1))
  pub bytes : (text : List ℕ) → bytes_in kind text ≡ text
  pub read : (y : ℕ) (b : Bool) → is_dark_byte kind y (get_or (ascii_module (hash b)) 0 0) ≡ b

-- in this module, `text` is a drawing of such a type
module _ (kind : Drawing) (hash : Bool → Bool) (ascii : IsAscii kind hash)
    (margin : ℕ) (squares : List Grid) (text : List ℕ) (h : IsDrawingOf kind margin squares text)
    (is_drawn : text ≡ flat_map (λ g. texts_below (raster_width margin g) (λ y. texts_below (raster_width margin g) (λ x. ascii_module (hash (is_dark_at margin g y x))) ++ 10 ∷ [])) squares) where
  wide : ℕ
  wide = raster_width margin (square_at squares 0)

  wide-in : 8 ≤ wide
  unfolding wide
  wide-in = (raster-wide kind margin squares text h).0

  -- the text of a module
  cell : ℕ → ℕ → ℕ → List ℕ
  cell k y x = ascii_module (hash (is_dark_at margin (square_at squares k) y x))

  size : (k y x : ℕ) → length (cell k y x) ≡ 2
  unfolding cell
  size k y x = search (arith, module-size)

  without : (sign : ℕ) → eqb 35 sign ≡ false → eqb 32 sign ≡ false → (k y x j : ℕ) → j < length (cell k y x) → eqb (get_or (cell k y x) j 0) sign ≡ false
  unfolding cell
  without sign a b k y x j lt = search (arith, module-without)

  -- the text, cell by cell
  whole : List ℕ
  whole = cells_text (length squares) wide wide cell

  text-is : text ≡ whole
  unfolding whole wide cell
  text-is = is_drawn ∙ squares-text (λ w. w) (λ g y x. ascii_module (hash (is_dark_at margin g y x))) margin squares h.one_side

  long : length whole ≡ length squares * (wide * (wide * 2 + 1))
  unfolding whole
  long = cells-length (length squares) wide wide 2 cell size

  -- the first byte of a module in the text is the first of the two characters that show it
  at : (k y x : ℕ) → k < length squares → y < wide → x < wide
      → get_or whole ((k * wide + y) * (2 * wide + 1) + 2 * x) 0 ≡ get_or (ascii_module (hash (is_dark_at margin (square_at squares k) y x))) 0 0
  unfolding whole cell
  at k y x a b c =
      let w = wide in
      let e : (k * w + y) * (2 * w + 1) + 2 * x ≡ (k * w + y) * (w * 2 + 1) + (x * 2 + 0) = omega arith in
      search (arith, cell-at, cell, size)

  -- the width that is computed from the text is that of a raster
  width-is : wide ≡ width_in kind text
  unfolding whole
  width-is =
      let w = wide-in in
      let e = ap first_line text-is ∙ cells-newline (length squares) wide wide 2 cell size h.some (omega arith) (without 10 refl refl) in
      omega (arith, ascii.width text)

  -- the number of squares that is computed from the text is that of the drawing
  count-is : length squares ≡ count_in kind text
  count-is = search (arith, wide-in, wide, mul-le-mul_right, mul-div_cancel, text-is, long, width-is)

  -- the text shows the squares with this margin
  shows : ShowsOn kind wide (length squares) whole margin squares
  unfolding is_dark_on wide
  shows = search (arith, whole, wide, at)

  pub ascii-sheet : ShowsOn kind (width_in kind text) (count_in kind text) (bytes_in kind text) margin squares
  ascii-sheet = search (arith, shows-by, wide, whole, width-is, count-is, text-is, shows)

  -- a byte that is neither `#` nor a space nor a newline is not in the text
  text-without : (sign : ℕ) → eqb 35 sign ≡ false → eqb 32 sign ≡ false → eqb 10 sign ≡ false → (i : ℕ) → i < length text → eqb (get_or text i 0) sign ≡ false
  unfolding whole
  text-without sign a b c i lt = search (arith, text-is, cells-without, wide, cell, without)

  -- the byte with the index 14 is the first of the module in row 0 and column 7, which is light
  fourteen : get_or text 14 0 ≡ get_or (ascii_module (hash false)) 0 0
  fourteen =
      let w = wide-in in
      let n = wide in
      let e : (0 * n + 0) * (2 * n + 1) + 2 * 7 ≡ 14 = omega arith in
      cc (text-is, at 0 0 7 h.some (omega arith) (omega arith), separator-light margin squares kind text h)

  -- the type that is computed from the text is `Ascii` if a space shows a light module, and otherwise `AsciiInverse`
  pub ascii-kind : kind_in text ≡ cond (eqb (get_or (ascii_module (hash false)) 0 0) 32) Ascii AsciiInverse
  ascii-kind =
      let w = wide-in in
      let first : eqb (get_or text 0 0) 60 ≡ false = text-without 60 refl refl refl 0 (omega (arith, ap length text-is, long, mul-le-mul_right (wide * (wide * 2 + 1)) h.some, mul-le-mul_right (wide * 2 + 1) w)) in
      let begin = take 22 text in
      let none : position_or_len (λ byte. eqb byte 0xE2) begin ≡ length begin = position-none 0xE2 begin (λ i lt.
      let n = length-take 22 text in
      cc (get_or-take 22 text i 0 (omega arith), text-without 0xE2 refl refl refl i (omega arith))) in
      search (arith, nat_tests, fourteen)

-- in the type `Ascii` a dark module is shown by `#`
plain : IsAscii Ascii (λ b. b)
plain = search arith

-- in the type `AsciiInverse` a light module is shown by `#`
inverse : IsAscii AsciiInverse not
inverse = search arith

pub plain-kind : (margin : ℕ) (squares : List Grid) (text : List ℕ) → IsDrawingOf Ascii margin squares text → kind_in text ≡ Ascii
plain-kind margin squares text h = ascii-kind Ascii (λ b. b) plain margin squares text h h.is_drawn

pub plain-sheet : (margin : ℕ) (squares : List Grid) (text : List ℕ) → IsDrawingOf Ascii margin squares text
    → ShowsOn Ascii (width_in Ascii text) (count_in Ascii text) (bytes_in Ascii text) margin squares
plain-sheet margin squares text h = search (arith, ascii-sheet, plain)

pub inverse-kind : (margin : ℕ) (squares : List Grid) (text : List ℕ) → IsDrawingOf AsciiInverse margin squares text → kind_in text ≡ AsciiInverse
inverse-kind margin squares text h = ascii-kind AsciiInverse not inverse margin squares text h h.is_drawn

pub inverse-sheet : (margin : ℕ) (squares : List Grid) (text : List ℕ) → IsDrawingOf AsciiInverse margin squares text
    → ShowsOn AsciiInverse (width_in AsciiInverse text) (count_in AsciiInverse text) (bytes_in AsciiInverse text) margin squares
inverse-sheet margin squares text h = search (arith, ascii-sheet, inverse)
