-- Raster images of ESC/POS, the language of receipt printers, read into what they print. A file that has other commands
-- than `GS v 0` in its mode 0, in which a dot of the image is a dot of the printer, is read as `None`.
use Rattle.std.specs.Prelude.{ℕ, zero, suc, ◌+◌, ◌*◌, ◌/◌, ◌&&◌, ◌==◌, nat_le, if◌then◌else◌, List, [], ◌∷◌, ◌++◌, length, take, drop, Option, Some, None}
use Rattle.std.specs.List.{slice_index_or}
use Rattle.qr_images.specs.Bits.{◌>>=◌}
use Rattle.qr_images.specs.Pbm.{Bitmap}
use Rattle.qr_images.specs.Png.{same}

-- The number of two bytes that the bytes begin with, the lower byte first (ESC/POS, GS v 0)
abbrev pub low_first : List ℕ → ℕ
low_first bytes = slice_index_or bytes 0 0 + 256 * slice_index_or bytes 1 0

-- The lines that commands print, those of each command below those of the command before. There are at most `most`
-- commands, and all have lines of `stride` bytes. A command has four bytes that name it, the number of bytes of a line,
-- the number of its lines, 1 to 2,303, and its lines from the top down (ESC/POS, GS v 0)
unfoldable pub printed : ℕ → ℕ → List ℕ → Option (List ℕ)
printed zero stride bytes = None
printed (suc most) stride [] = Some []
printed (suc most) stride (b ∷ bytes) =
    let all = b ∷ bytes in
    let count = low_first (drop 6 all) in
    let n = count * stride in
    if same (take 4 all) (0x1D ∷ 0x76 ∷ 0x30 ∷ 0 ∷ []) && (low_first (drop 4 all) == stride
    && (nat_le 1 count && (nat_le count 2303 && nat_le (8 + n) (length all))))
    then (printed most stride (drop (8 + n) all) >>= λ rest. Some (take n (drop 8 all) ++ rest)) else None

-- The bitmap that a file prints. A byte has eight dots, the left one in its highest bit, and 1 is black (ESC/POS,
-- GS v 0)
unfoldable pub print : List ℕ → Option Bitmap
print bytes =
    let stride = low_first (drop 4 bytes) in
    if nat_le 1 stride then (printed (length bytes) stride bytes >>= λ lines.
    Some (record { width = 8 * stride; height = length lines / stride; lines = lines }))
    else None
