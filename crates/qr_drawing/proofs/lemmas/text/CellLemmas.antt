-- The cells of a line by the bits of their modules, and the room that they take.
use Rattle.std.proofs.Common.{◌≡◌, ◌++◌, ◌∙◌, ◌<◌, ◌≤◌, ◌+◌, ◌-◌, ◌*◌, ◌/◌, ◌%◌, ◌^◌, ◌&&◌, ℕ, Bool, true, false, not, List, [], ◌∷◌, length, get_or, nat_eq, length-append, append_assoc, take, refl, sym, ap, arith}
use Rattle.std.{proofs.Math.Nat.{add-mul, mul-le-mul_right}, specs.Cmp.Lexicographic.{pointwise, same_text}}
use Rattle.qr_matrix.specs.{Grid.{Grid, colour, is_same}, BitRow.has_bit, Sums.all_below}
use Rattle.qr_matrix.proofs.Facts.{&&-left, &&-right, below-at, has_bit-shr, low-bits, same-same}
use Rattle.qr_drawing.specs.{Raster.{is_dark_at, raster_width, texts_below}, Text.{cell_of, cells_of_line, line_of}}
use Rattle.qr_drawing.specs.Steps.Text.{AreDark, bits_text, cell_at, cell_room, cell_text, pair_text, top_row}
use Rattle.qr_drawing.specs.declared.text.{TheConstants.{ASCII_QUADS, HALF_BLOCK_PAIRS}, TextStyle.{TextStyle, TheVariants.{Plain, Inverse, HalfBlocks}}}
use Rattle.qr_drawing.proofs.lemmas.text.LineLemmas.{added-more, texts_below-add, texts_below-alike, texts_below-length}
use Rattle.qr_drawing.proofs.lemmas.svg.{is_dark_at-inside, is_dark_at-left, is_dark_at-right}

-- no bit of 0 is set: computed
none-set : all_below 8 (λ k. is_same (has_bit 0 k) false) ≡ true
unfolding has_bit
none-set = refl

light-bit : (k : ℕ) → k < 8 → has_bit 0 k ≡ false
light-bit k lt = search (arith, same-same, below-at, none-set)

-- four cells of modules that are bits of 0 are four light cells
pub light-quad : (style : TextStyle) → bits_text 4 style 0 0 ≡ texts_below 4 (λ _. cell_text style false false)
light-quad style = search (arith, texts_below-alike, light-bit)

-- if a row of the raster is light, the number 0 has the bits of eight of its modules
pub dark_none : (margin : ℕ) (g : Grid) (y col : ℕ) → ((x : ℕ) → is_dark_at margin g y x ≡ false) → AreDark margin g y col 0
dark_none margin g y col h k lt inside = light-bit k lt ∙ sym (h (margin + (col + k)))

-- the bits of eight modules of the square are those of eight places of the raster
pub dark-eight : (margin : ℕ) (g : Grid) (y row col bits : ℕ) → margin + row ≡ y → row < g.side
    → ((k : ℕ) → k < 8 → col + k < g.side → has_bit bits k ≡ colour g row (col + k)) → AreDark margin g y col bits
dark-eight margin g y row col bits e inside h k lt col_in = search (arith, is_dark_at-inside)

-- if n cells are added to the cells of `col` columns, the result is the cells of `col` + n columns
pub added-cells : (style : TextStyle) (margin : ℕ) (g : Grid) (row col n upper lower : ℕ) (h t u : List ℕ) →
    n ≤ 8 → col + n ≤ g.side → AreDark margin g row col upper → AreDark margin g (row + 1) col lower →
    t ≡ h ++ texts_below col (λ i. cell_at style margin g row (margin + i)) →
    u ≡ t ++ bits_text n style upper lower →
    u ≡ h ++ texts_below (col + n) (λ i. cell_at style margin g row (margin + i))
added-cells style margin g row col n upper lower h t u few fits up down p q =
    added-more h t u col n _ _ p q
    (search (arith, texts_below-alike))

-- the texts of n + d cells are those of the n lowest bits and of the d bits after them
bits-split : (n d : ℕ) (style : TextStyle) (upper lower : ℕ)
    → bits_text (n + d) style upper lower ≡ bits_text n style upper lower ++ bits_text d style (upper / 2 ^ n) (lower / 2 ^ n)
bits-split n d style upper lower = search (arith, has_bit-shr, texts_below-add, texts_below-alike)

-- if four cells are added and then four more, eight cells are added
pub eight-quads : (h t u : List ℕ) (style : TextStyle) (upper lower : ℕ) → t ≡ h ++ bits_text 4 style upper lower
    → u ≡ t ++ bits_text 4 style (upper / 16) (lower / 16) → u ≡ h ++ bits_text 8 style upper lower
eight-quads h t u style upper lower p q =
    cc (
      q,
      p,
      append_assoc h (bits_text 4 style upper lower) (bits_text 4 style (upper / 16) (lower / 16)),
      bits-split 4 4 style upper lower,
    )

-- each text of the table is that of its four modules: computed
all-quads : all_below 16 (λ b. pointwise nat_eq (get_or ASCII_QUADS b []) (bits_text 4 Plain b 0)) ≡ true
unfolding has_bit texts_below
all-quads = refl

-- a text of the table is that of its four modules
quad-at : (b : ℕ) → b < 16 → get_or ASCII_QUADS b [] ≡ bits_text 4 Plain b 0
quad-at b lt = same_text _ _ (sym (below-at 16 (λ b. pointwise nat_eq (get_or ASCII_QUADS b []) (bits_text 4 Plain b 0)) all-quads b lt))

-- the text of the table for the four lowest bits is that of four modules
pub quad-plain : (upper lower : ℕ) → get_or ASCII_QUADS (upper % 16) [] ≡ bits_text 4 Plain upper lower
quad-plain upper lower =
    quad-at (upper % 16) (omega arith) ∙ texts_below-alike 4 _ _ (λ k lt. ap (λ b. cell_text Plain b false) (low-bits 4 upper k lt))

-- each of the four lowest bits of `15 - bits` is the opposite bit: computed
all-others : all_below 16 (λ b. all_below 4 (λ k. is_same (has_bit (15 - b) k) (not (has_bit b k)))) ≡ true
unfolding has_bit
all-others = refl

-- each bit of `15 - bits` is the opposite bit
other-bit : (b k : ℕ) → b < 16 → k < 4 → has_bit (15 - b) k ≡ not (has_bit b k)
other-bit b k l m = same-same _ _ (below-at 4 (λ k. is_same (has_bit (15 - b) k) (not (has_bit b k))) (below-at 16 (λ b. all_below 4 (λ k. is_same (has_bit (15 - b) k) (not (has_bit b k)))) all-others b l) k m)

-- four modules of an inverse text are written as the opposite modules of a plain text
pub quad-inverse : (upper lower : ℕ) → get_or ASCII_QUADS (15 - upper % 16) [] ≡ bits_text 4 Inverse upper lower
quad-inverse upper lower =
    quad-at (15 - upper % 16) (omega arith) ∙ texts_below-alike 4 _ _
    (λ k lt. ap (λ b. cell_text Plain b false) (other-bit (upper % 16) k (omega arith) lt ∙ ap (λ b. not b) (low-bits 4 upper k lt)))

-- the bits of two modules and of the two below them, as one number: computed
all-pairs : all_below 4 (λ a. all_below 4 (λ b. all_below 2 (λ k. is_same (has_bit (a + b * 4) k) (has_bit a k) && is_same (has_bit (a + b * 4) (2 + k)) (has_bit b k)))) ≡ true
unfolding has_bit
all-pairs = refl

-- each text of the table of pairs is that of its modules: computed
all-pair-texts : all_below 16 (λ p. pointwise nat_eq (take (get_or HALF_BLOCK_PAIRS p ([], 0)).1 (get_or HALF_BLOCK_PAIRS p ([], 0)).0) (pair_text p)) ≡ true
unfolding has_bit texts_below
all-pair-texts = refl

-- a text of the table of pairs is that of its modules
pub pair-at : (p : ℕ) → p < 16 → take (get_or HALF_BLOCK_PAIRS p ([], 0)).1 (get_or HALF_BLOCK_PAIRS p ([], 0)).0 ≡ pair_text p
pair-at p lt =
    same_text _ _ (sym (below-at 16 (λ p. pointwise nat_eq (take (get_or HALF_BLOCK_PAIRS p ([], 0)).1 (get_or HALF_BLOCK_PAIRS p ([], 0)).0) (pair_text p)) all-pair-texts p lt))

-- two modules and the two below them are two characters of half blocks
half-pair : (upper lower : ℕ) → pair_text (upper % 4 + lower % 4 * 4) ≡ bits_text 2 HalfBlocks upper lower
half-pair upper lower =
    let a = upper % 4 in
    let b = lower % 4 in
    let test = λ (a b k : ℕ). is_same (has_bit (a + b * 4) k) (has_bit a k) && is_same (has_bit (a + b * 4) (2 + k)) (has_bit b k) in
    let both : (k : ℕ) → k < 2 → test a b k ≡ true = below-at 2 (test a b)
    (below-at 4 (λ b. all_below 2 (test a b)) (below-at 4 (λ a. all_below 4 (λ b. all_below 2 (test a b))) all-pairs a (omega arith)) b (omega arith)) in
    let up : (k : ℕ) → k < 2 → has_bit (a + b * 4) k ≡ has_bit upper k = λ k lt. same-same _ _ (&&-left _ _ (both k lt)) ∙ low-bits 2 upper k lt in
    let down : (k : ℕ) → k < 2 → has_bit (a + b * 4) (2 + k) ≡ has_bit lower k = λ k lt. same-same _ _ (&&-right _ _ (both k lt)) ∙ low-bits 2 lower k lt in
    search (arith, texts_below-alike)

-- if two characters of half blocks are added and then two more, four characters are added
pub half-block-pairs : (h t u : List ℕ) (upper lower : ℕ) → t ≡ h ++ pair_text (upper % 4 + lower % 4 * 4)
    → u ≡ t ++ pair_text (upper / 4 % 4 + lower / 4 % 4 * 4) → u ≡ h ++ bits_text 4 HalfBlocks upper lower
half-block-pairs h t u upper lower p q =
    let low = bits_text 2 HalfBlocks upper lower in
    cc (
      q,
      p,
      half-pair upper lower,
      half-pair (upper / 4) (lower / 4),
      append_assoc h low (bits_text 2 HalfBlocks (upper / 4) (lower / 4)),
      bits-split 2 2 HalfBlocks upper lower,
    )

-- a cell takes at most its room
pub cell-length : (style : TextStyle) (upper lower : Bool) → length (cell_text style upper lower) ≤ cell_room style
cell-length style upper lower = grind arith

-- at most `count` texts of at most b bytes each were added
pub cells-length : (h t : List ℕ) (n count b : ℕ) (text : ℕ → List ℕ) → ((k : ℕ) → length (text k) ≤ b) → t ≡ h ++ texts_below n text
    → n ≤ count → length t ≤ length h + count * b
cells-length h t n count b text most e le =
    omega (arith, texts_below-length n b text most, ap (λ l. length l) e ∙ length-append h (texts_below n text), mul-le-mul_right b le)

-- if there was room for `o` bytes, then after n texts of at most b bytes there is room for d bytes
pub room-left : (h t : List ℕ) (n d o b room : ℕ) (text : ℕ → List ℕ) → ((k : ℕ) → length (text k) ≤ b) → t ≡ h ++ texts_below n text
    → n + d ≤ o → length h + o * b ≤ room → length t + d * b ≤ room
room-left h t n d o b room text most e le fits =
    let l : length t ≡ length h + length (texts_below n text) = search (arith, length-append) in
    omega (arith, l, texts_below-length n b text most, add-mul n d b, mul-le-mul_right b le, fits)

-- if there was room for four characters of half blocks, then after two there is room for two more
pub room-pair : (h t : List ℕ) (pair : ℕ) → t ≡ h ++ pair_text pair → length h + 12 ≤ 1200 → length t + 6 ≤ 1200
room-pair h t pair e fits = room-left h t 2 2 4 3 1200 _ (λ k. cell-length HalfBlocks _ _) e (omega arith) fits

-- if there was room for eight cells, then after four there is room for four more
pub room-quad : (style : TextStyle) (h t : List ℕ) (upper lower : ℕ) → t ≡ h ++ bits_text 4 style upper lower → length h + 8 * cell_room style ≤ 1200
    → length t + 4 * cell_room style ≤ 1200
room-quad style h t upper lower e fits = room-left h t 4 4 8 (cell_room style) 1200 _ (λ k. cell-length style _ _) e (omega arith) fits

-- if there was room for `count` cells of a row, then after `done` of them there is room for n more
pub room-cells : (style : TextStyle) (margin : ℕ) (g : Grid) (row first done n count : ℕ) (h t : List ℕ) →
    t ≡ h ++ texts_below done (λ i. cell_at style margin g row (first + i)) → done + n ≤ count →
    length h + count * cell_room style ≤ 1200 → length t + n * cell_room style ≤ 1200
room-cells style margin g row first done n count h t e le fits =
    room-left h t done n count (cell_room style) 1200 _ (λ k. cell-length style _ _) e le fits

-- the cell in column x of a line is the cell of the definition
cell-of : (style : TextStyle) (margin : ℕ) (g : Grid) (y x : ℕ) → cell_of style margin g y x ≡ cell_at style margin g (top_row style y) x
cell-of style margin g y x = grind arith

-- a cell of a line takes at most its room
cell_of-length : (style : TextStyle) (margin : ℕ) (g : Grid) (y x : ℕ) → length (cell_of style margin g y x) ≤ cell_room style
cell_of-length style margin g y x = grind arith

-- a line takes at most the room of its cells, and a byte more
pub line-length : (style : TextStyle) (margin : ℕ) (g : Grid) (y : ℕ) → length (line_of style margin g y) ≤ raster_width margin g * cell_room style + 1
line-length style margin g y =
    omega (
      arith,
      length-append (cells_of_line style margin g y) (10 ∷ []),
      texts_below-length (raster_width margin g) (cell_room style) (cell_of style margin g y) (cell_of-length style margin g y),
    )

-- the cells of columns that are light are light cells
light-cells : (style : TextStyle) (margin : ℕ) (g : Grid) (row first n : ℕ) →
    ((y k : ℕ) → k < n → is_dark_at margin g y (first + k) ≡ false) →
    texts_below n (λ i. cell_at style margin g row (first + i)) ≡ texts_below n (λ _. cell_text style false false)
light-cells style margin g row first n light = search (arith, texts_below-alike)

-- n cells of the columns from `col` + d on, by the bits of the eight modules from `col` on
pub later-cells : (style : TextStyle) (margin : ℕ) (g : Grid) (row col d n upper lower up down : ℕ) → d + n ≤ 8 → col + d + n ≤ g.side →
    AreDark margin g row col upper → AreDark margin g (row + 1) col lower → up ≡ upper / 2 ^ d → down ≡ lower / 2 ^ d →
    bits_text n style up down ≡ texts_below n (λ i. cell_at style margin g row (margin + (col + d) + i))
later-cells style margin g row col d n upper lower up down few fits above below e f =
    let at : (y bits k : ℕ) → AreDark margin g y col bits → k < n → has_bit (bits / 2 ^ d) k ≡ is_dark_at margin g y (margin + (col + d) + k) =
    λ y bits k dark lt. has_bit-shr bits d k ∙ (search arith) in
    search (arith, texts_below-alike)

-- a line is the margin, the first `col` columns of the square, the n columns that are left, the margin and a newline
pub line-parts : (style : TextStyle) (margin : ℕ) (g : Grid) (y col n : ℕ) → col + n ≡ g.side → cells_of_line style margin g y ++ 10 ∷ []
    ≡ (texts_below margin (λ _. cell_text style false false)
    ++ texts_below col (λ i. cell_at style margin g (top_row style y) (margin + i)))
    ++ (texts_below n (λ i. cell_at style margin g (top_row style y) (margin + col + i))
    ++ (texts_below margin (λ _. cell_text style false false) ++ 10 ∷ []))
line-parts style margin g y col n whole =
    let cell = cell_at style margin g (top_row style y) in
    let light = texts_below margin (λ _. cell_text style false false) in
    let columns = texts_below col (λ i. cell (margin + i)) in
    let rest = texts_below n (λ i. cell (margin + col + i)) in
    let right = margin + col + n in
    let e : raster_width margin g ≡ right + margin = omega arith in
    cc (
      texts_below-alike (raster_width margin g) (cell_of style margin g y) cell (λ k lt. cell-of style margin g y k),
      ap (λ n. texts_below n cell) e,
      texts_below-add right margin cell,
      texts_below-add (margin + col) n cell,
      texts_below-add margin col cell,
      texts_below-alike margin cell (λ k. cell (0 + k)) (λ k lt. ap cell (omega arith)),
      light-cells style margin g (top_row style y) 0 margin (λ y k lt. is_dark_at-left margin y (0 + k) g (omega arith)),
      light-cells style margin g (top_row style y) right margin (λ y k lt. is_dark_at-right margin y (right + k) g (omega arith)),
      append_assoc (light ++ columns) rest light,
      append_assoc (light ++ columns) (rest ++ light) (10 ∷ []),
      append_assoc rest light (10 ∷ []),
    )
