-- Labels of ZPL, the language of Zebra's label printers, read into what they print. A label that has more than one
-- graphic, another command than those read here, or other line ends, is read as `None`.
--
-- A graphic is packed: its lines are hexadecimal digits, which may have counts before them. The manual names 99,999 as
-- the greatest number of bytes of a graphic. This bound is not checked here.
use Rattle.std.specs.Prelude.{ℕ, ◌+◌, ◌-◌, ◌*◌, ◌/◌, ◌%◌, max, Bool, ◌&&◌, ◌==◌, nat_le, nat_lt, if◌then◌else◌, List, [], ◌∷◌, ◌++◌, length, take, drop, codes, Option, Some, None}
use Rattle.qr_images.specs.Bits.{◌>>=◌}
use Rattle.qr_images.specs.Image.{repeated}
use Rattle.qr_images.specs.Labels.{Label, after, number_before}
use Rattle.qr_images.specs.Png.{same}

-- `b` is one of the numbers from `first` to `last` [own]
abbrev pub is_from : ℕ → ℕ → ℕ → Bool
is_from first last b = nat_le first b && nat_le b last

-- The count that a letter stands for: G to Y stand for 1 to 19, and g to z for 20 to 400 in steps of 20. Other bytes
-- have 0 (ZPL, ^GF)
unfoldable pub count_of : ℕ → ℕ
count_of b = if is_from 71 89 b then b - 70 else (if is_from 103 122 b then 20 * (b - 102) else 0)

-- The hexadecimal digit that a byte stands for, if it is one of 0 to 9 and A to F (ZPL, ^GF)
unfoldable pub digit_of : ℕ → Option ℕ
digit_of b = if is_from 48 57 b then Some (b - 48) else (if is_from 65 70 b then Some (b - 55) else None)

-- What was read of a graphic: its digits, and the count that stands before the next digit, or 0 if there is none [own]
pub record Graphic : Type 0 where
  pub digits : List ℕ
  pub count : ℕ

-- What was read after one more byte, if a line has `n` digits. Counts that follow one another are added, and the digit
-- after them comes as often as they say, but not over the end of a line. A comma fills the rest of a line with the digit
-- 0, and `!` with the digit F. A colon is the line above once more (ZPL, ^GF)
unfoldable pub read_byte : ℕ → Graphic → ℕ → Option Graphic
read_byte n s b =
    let lacks = n - length s.digits % n in
    if nat_lt 0 (count_of b) then Some (record { digits = s.digits; count = s.count + count_of b })
    else (if b == 44 && s.count == 0 then Some (record { digits = s.digits ++ repeated lacks (0 ∷ []); count = 0 })
    else (if b == 33 && s.count == 0 then Some (record { digits = s.digits ++ repeated lacks (15 ∷ []); count = 0 })
    else (if b == 58 && (s.count == 0 && (lacks == n && nat_le n (length s.digits)))
    then Some (record { digits = s.digits ++ drop (length s.digits - n) s.digits; count = 0 })
    else (digit_of b >>= λ d. if nat_le (max 1 s.count) lacks
    then Some (record { digits = s.digits ++ repeated (max 1 s.count) (d ∷ []); count = 0 }) else None))))

-- What was read after more bytes [own]
unfoldable pub read_bytes : ℕ → Graphic → List ℕ → Option Graphic
read_bytes n s [] = Some s
read_bytes n s (b ∷ bytes) = read_byte n s b >>= λ t. read_bytes n t bytes

-- The bytes that hexadecimal digits stand for, the higher digit of each first (ZPL, ^GF)
unfoldable pub bytes_of : List ℕ → List ℕ
bytes_of [] = []
bytes_of (a ∷ []) = []
bytes_of (a ∷ b ∷ digits) = (a * 16 + b) ∷ bytes_of digits

-- The label that a file prints: between `^XA` and `^XZ` the place of the graphic, each number up to 32,000, the number of
-- its bytes twice, that of a line, and its packed lines from the top down. A byte has eight dots, the left one in its
-- highest bit, and 1 is black (ZPL, ^FO, ^GF)
unfoldable pub zpl_label : List ℕ → Option Label
zpl_label bytes =
    after (codes "^XA\n^FO") bytes >>= λ start. number_before (codes ",") start >>= λ left. number_before (codes "^GFA,") left.1 >>= λ top.
    number_before (codes ",") top.1 >>= λ sent. number_before (codes ",") sent.1 >>= λ total. number_before (codes ",") total.1 >>= λ stride.
    let n = length stride.1 - 8 in
    if same (drop n stride.1) (codes "^FS\n^XZ\n") && (nat_le left.0 32000 && (nat_le top.0 32000 && (sent.0 == total.0
    && (nat_le 1 stride.0 && (nat_le 1 total.0 && total.0 % stride.0 == 0)))))
    then (read_bytes (2 * stride.0) (record { digits = []; count = 0 }) (take n stride.1) >>= λ s.
    if s.count == 0 && length s.digits == 2 * total.0
    then Some (record { left = left.0; top = top.0; bitmap = record { width = 8 * stride.0; height = total.0 / stride.0; lines = bytes_of s.digits } })
    else None) else None
