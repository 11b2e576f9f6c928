-- The numbers in an SVG document, the boxes that they give, and the bytes on which these boxes are painted.
use Rattle.std.specs.Prelude.{◌≡◌, ℕ, ◌+◌, ◌*◌, ◌/◌, ◌%◌, ◌==◌, ◌-◌, ◌≤◌, Bool, true, false, ◌&&◌, ◌||◌, nat_le, nat_lt, min, if◌then◌else◌, List, [], ◌∷◌, ◌++◌, map}
use Rattle.std.specs.List.{range_with_len}
use Rattle.qr_drawing.specs.Svg.{box_path}

-- The byte is the code of a decimal digit
abbrev pub is_digit : ℕ → Bool
is_digit byte = nat_le 48 byte && nat_lt byte 58

-- The decimal numbers in a text, in their order. A number above 99,999 counts as 99,999, and a number with which the
-- text ends is left out. If `inside` is true, the first number began before the text, and `number` is the value of the
-- digits that it has there
unfoldable pub numbers_after : ℕ → Bool → List ℕ → List ℕ
numbers_after number inside [] = []
numbers_after number inside (byte ∷ bytes) =
    if is_digit byte then numbers_after (min (number * 10 + (byte - 48)) 99999) true bytes
    else (if inside then number ∷ numbers_after 0 false bytes else numbers_after 0 false bytes)

-- The decimal numbers in a text, in their order. A number above 99,999 counts as 99,999, and a number with which the
-- text ends is left out
abbrev pub numbers_in : List ℕ → List ℕ
numbers_in text = numbers_after 0 false text

-- The place in row `r` and column `c` is in a box. The list has five numbers for each box: its column, its row, its
-- width, its height, and its width again. Each box is one row high
abbrev pub is_in_boxes : List ℕ → ℕ → ℕ → Bool
is_in_boxes (x ∷ y ∷ modules ∷ high ∷ back ∷ numbers) r c = (y == r && (nat_le x c && nat_lt c (x + modules))) || is_in_boxes numbers r c
is_in_boxes numbers r c = false

-- The painted bytes of an SVG document, which are the bytes of its sheet: a byte for each module, row by row. The byte
-- is 1 if the module is in a box, and otherwise 0. `numbers` has five numbers for each box (`is_in_boxes`), and the
-- document is `width` by `height` modules
abbrev pub painted_bytes : ℕ → ℕ → List ℕ → List ℕ
painted_bytes width height numbers = map (λ i. if is_in_boxes numbers (i / width) (i % width) then 1 else 0) (range_with_len 0 (width * height))

-- The decimal number with which a text begins, and the rest of the text. The byte that ends the number is in neither.
-- If the number began before the text, `number` is the value of the digits that it has there, and otherwise it is 0
unfoldable pub leading : ℕ → List ℕ → ℕ × List ℕ
leading number [] = (number, [])
leading number (byte ∷ bytes) = if is_digit byte then leading (number * 10 + (byte - 48)) bytes else (number, bytes)

-- The text from its first letter `M` on, which is where the first box of a path begins. If the text has no `M`, the
-- result is empty
abbrev pub path_in : List ℕ → List ℕ
path_in [] = []
path_in (byte ∷ bytes) = if byte == 77 then byte ∷ bytes else path_in bytes

-- The text begins with a path of boxes, and no box comes after this path. The list has five numbers for each box: its
-- column, its row, its width, its height, and its width again. Columns and widths are at most 999, and rows at most
-- 99,999
abbrev pub IsPath : List ℕ → List ℕ → Type 0
IsPath [] text = path_in text ≡ []
IsPath (x ∷ y ∷ modules ∷ high ∷ back ∷ numbers) text =
    (rest : List ℕ) × (x ≤ 999) × (y ≤ 99999) × (modules ≤ 999) × (text ≡ box_path x y modules ++ rest) × IsPath numbers rest
IsPath numbers text = ⊥
