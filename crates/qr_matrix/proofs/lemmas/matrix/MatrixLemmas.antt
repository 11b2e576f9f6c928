-- Rows of words, seen as a square of colours: what reading and writing a bit row does to the colours.
use Rattle.std.proofs.Common.{◌≡◌, ℕ, ◌<◌, ◌≤◌, Bool, false, inl, inr, ◌⊎◌, sym, not, ◌&&◌, cond, eqb, ltb, leb, ◌+◌, List, [], ◌∷◌, length, get_or, set, replicate, ap, ◌∙◌, arith}
use Rattle.std.proofs.lemmas.{Bool.cases_lt, Bool.Decides.nat_tests, Nat.Bits.bit_at-zero}
use Rattle.std.proofs.lemmas.List.{get_or_past, get_or_read, get_or-replicate, length-replicate, get_or-set_same, get_or-set_other}
use Rattle.qr_matrix.specs.{Grid.{Grid, square, colour, with_row, with_rectangle, is_same}, BitRow.{has, has_bit, bit_row_number, dark_in}}
use Rattle.qr_matrix.proofs.lemmas.{runs.ColumnLemmas.has-nothing, matrix.GridLemmas.{square-same, colour-square, colour-outside}}

-- the square of s rows in which no bit from s on is set has the colours of its rows, also outside it
colour-is : (s : ℕ) (rows : List (List ℕ)) (r c : ℕ) → length rows ≡ s → ((r c : ℕ) → s ≤ c → dark_in rows r c ≡ false) → colour (square s (dark_in rows)) r c ≡ dark_in rows r c
unfolding dark_in has has_bit bit_row_number
colour-is s rows r c e h = search (arith, colour-square, colour-outside, get_or_past, bit_at-zero)

-- ---- the steps of a matrix

-- the words that are read at the index `row` are the bit row of this row
read-line : (rows : List (List ℕ)) (row i : ℕ) (words : List ℕ) → i ≡ row → row < length rows → words ≡ get_or rows i words → words ≡ get_or rows row []
read-line rows row i words e l w = search (arith, get_or_read)

-- bit c of the bit row that is read is the colour of the square g in column c of this row
pub row-read : (s row i : ℕ) (rows : List (List ℕ)) (words : List ℕ) (g : Grid) → square s (dark_in rows) ≡ g → i ≡ row → row < length rows → length rows ≡ s → ((r c : ℕ) → s ≤ c → dark_in rows r c ≡ false) → words ≡ get_or rows i words → (c : ℕ) → has words c ≡ colour g row c
unfolding dark_in
row-read s row i rows words g v e l q h w c = grind (arith, read-line, colour-is)

-- the same for a row of the square, of which rows may follow more
pub row-of-square : (s row i : ℕ) (rows : List (List ℕ)) (words : List ℕ) (g : Grid) → square s (dark_in rows) ≡ g → i ≡ row → row < length rows → row < s → ((r c : ℕ) → s ≤ c → dark_in rows r c ≡ false) → words ≡ get_or rows i words → (c : ℕ) → has words c ≡ colour g row c
unfolding dark_in
row-of-square s row i rows words g v e l q h w c =
    ap (λ z. has z c) (read-line rows row i words e l w) ∙ (sym (inside (cases_lt c s)) ∙ ap (λ (z : Grid). colour z row c) v)
  where
    inside : (c < s) ⊎ (s ≤ c) → colour (square s (dark_in rows)) row c ≡ dark_in rows row c
    inside (inl k) = colour-square s (dark_in rows) row c q k
    inside (inr k) = colour-outside s (dark_in rows) row c (inr k) ∙ sym (h row c k)

-- no bit from s on is set in any row
abbrev pub AreInside : ℕ → List (List ℕ) → Type 0
AreInside s rows = (r c : ℕ) → s ≤ c → dark_in rows r c ≡ false

-- no bit from s on is set in the bit row that is read
pub row-past : (s row i : ℕ) (rows : List (List ℕ)) (words : List ℕ) → i ≡ row → row < length rows → AreInside s rows → words ≡ get_or rows i words → (c : ℕ) → s ≤ c → has words c ≡ false
unfolding dark_in
row-past s row i rows words e l h w c k = ap (λ z. has z c) (read-line rows row i words e l w) ∙ h row c k

-- ---- a bit row that is written

-- after a bit row is written, its row has the colours of the written bits, and all other rows have their old colours
pub line-set : (rows : List (List ℕ)) (row i : ℕ) (words : List ℕ) → i ≡ row → row < length rows → (r c : ℕ) → dark_in (set rows i words) r c ≡ cond (eqb r row) (has words c) (dark_in rows r c)
unfolding dark_in
line-set rows row i words f l r c = search (arith, nat_tests, get_or-set_same, get_or-set_other)

-- after a bit row is written that has no bit from s on set, still no bit from s on is set in any row
pub line-inside : (s row : ℕ) (rows new : List (List ℕ)) (words : List ℕ) → ((r c : ℕ) → dark_in new r c ≡ cond (eqb r row) (has words c) (dark_in rows r c)) → ((c : ℕ) → s ≤ c → has words c ≡ false) → AreInside s rows → AreInside s new
line-inside s row rows new words h w i r c k = search arith

-- after a bit row with the colours f is written, the square is the old square with this row replaced by f
pub line-write : (s row : ℕ) (rows new : List (List ℕ)) (g : Grid) (words : List ℕ) (f : ℕ → Bool) → square s (dark_in rows) ≡ g → ((r c : ℕ) → dark_in new r c ≡ cond (eqb r row) (has words c) (dark_in rows r c)) → ((c : ℕ) → c < s → has words c ≡ f c) → square s (dark_in new) ≡ with_row g row f
line-write s row rows new g words f v h e = search (arith, square-same, colour-square)

-- a bit of the unmasked row is inverted where w and r are both set
pub masked-bit : (d p w r x : Bool) → d ≡ not (is_same p x) → x ≡ (w && r) → d ≡ cond (w && r) (not p) p
masked-bit d p w r x e f = grind (arith, nat_tests)

-- a bit that is set neither in the unmasked row nor in `within` is not set in the masked row
pub masked-past : (d p w r x : Bool) → d ≡ not (is_same p x) → x ≡ (w && r) → p ≡ false → w ≡ false → d ≡ false
masked-past d p w r x e f g h = cc

-- a square is the same with row f and with row h, if f and h have the same colours
pub with_row-same : (g : Grid) (row : ℕ) (f h : ℕ → Bool) → ((c : ℕ) → c < g.side → f c ≡ h c) → with_row g row f ≡ with_row g row h
with_row-same g row f h e = search (arith, square-same)

-- ---- rectangles

-- a rectangle to before `row`, followed by one more row of the same columns, is the rectangle to before row + 1
pub rectangle-row : (g h : Grid) (top row left right : ℕ) (dark : Bool) → top ≤ row → h ≡ with_rectangle g top row left right dark → with_row h row (λ c. cond (leb left c && ltb c right) dark (colour h row c)) ≡ with_rectangle g top (row + 1) left right dark
rectangle-row g h top row left right dark k e =
    ap (λ (x : Grid). with_row x row (λ c. cond (leb left c && ltb c right) dark (colour x row c))) e
    ∙ square-same g.side (λ r c. cond (eqb r row) (cond (leb left c && ltb c right) dark (colour (with_rectangle g top row left right dark) row c)) (colour (with_rectangle g top row left right dark) r c)) (λ r c. cond (leb top r && ltb r (row + 1) && leb left c && ltb c right) dark (colour g r c)) (search (arith, nat_tests, colour-square))

-- ---- the light square

-- n equal rows have the length n
pub rows-long : (n : ℕ) (rows : List (List ℕ)) → rows ≡ replicate n (0 ∷ 0 ∷ 0 ∷ []) → length rows ≡ n
rows-long n rows e = search (arith, length-replicate)

-- rows whose words are 0 are light everywhere
pub dark-replicate : (n : ℕ) (rows : List (List ℕ)) (r c : ℕ) → rows ≡ replicate n (0 ∷ 0 ∷ 0 ∷ []) → dark_in rows r c ≡ false
unfolding dark_in has has_bit bit_row_number
dark-replicate n rows r c e = search (arith, get_or-replicate, has-nothing, rows-long, get_or_past, bit_at-zero)

-- the square of rows that are light everywhere is the light square
pub light-square : (s : ℕ) (rows : List (List ℕ)) → ((r c : ℕ) → dark_in rows r c ≡ false) → square s (dark_in rows) ≡ square s (λ _ _. false)
light-square s rows h = search (arith, square-same)

-- a bit that is not set from the side s on stays if only the words of s are kept
pub words-kept : (s n k : ℕ) (x : Bool) → s ≤ n → (s ≤ k → x ≡ false) → (x && ltb k n) ≡ x
words-kept s n k x l h = search (arith, nat_tests)
