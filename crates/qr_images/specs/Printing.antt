-- The bytes that are written for printers. Laws say what the definitions of `EscPos`, `Tspl` and `Zpl` read from them,
-- so that no reader of those laws has to believe these.
use Rattle.std.specs.Prelude.{ℕ, ◌+◌, ◌-◌, ◌*◌, ◌/◌, ◌%◌, true, false, min, List, [], ◌∷◌, ◌++◌, codes, decimal}
use Rattle.qr_matrix.specs.Grid.{Grid}
use Rattle.qr_images.specs.BitmapLines.{toned_lines}
use Rattle.qr_images.specs.Image.{image_width, joined_below, line_length}
use Rattle.qr_images.specs.Packing.{packed_rows}
use Rattle.qr_images.specs.declared.image.ImageSettings.{ImageSettings}

-- What comes before the lines of a band: the command, the number of bytes of a line, and the number of lines (ESC/POS,
-- GS v 0)
unfoldable pub band_head : ℕ → ℕ → List ℕ
band_head stride count = 0x1D ∷ 0x76 ∷ 0x30 ∷ 0 ∷ stride % 256 ∷ stride / 256 ∷ count % 256 ∷ count / 256 ∷ []

-- A band of `count` lines from line `first` on (ESC/POS, GS v 0)
unfoldable pub band : ImageSettings → Grid → ℕ → ℕ → List ℕ
band s g first count = band_head (line_length s g) count ++ toned_lines true s g first count

-- The number of lines of band `k`: 255 lines, or those that are left [own]
abbrev pub band_count : ImageSettings → Grid → ℕ → ℕ
band_count s g k = min 255 (image_width s g - 255 * k)

-- The commands of ESC/POS that print an image, in bands of 255 lines, of which the last may have fewer [own]
unfoldable pub escpos_file : ImageSettings → Grid → List ℕ
escpos_file s g = joined_below ((image_width s g + 254) / 255) (λ k. band s g (255 * k) (band_count s g k))

-- What comes before the lines in the command of TSPL: the place, the number of bytes of a line, the number of lines, and
-- the mode (TSPL, BITMAP)
unfoldable pub tspl_head : ℕ → ℕ → ℕ → ℕ → List ℕ
tspl_head left top stride count =
    (codes "BITMAP " ++ decimal left) ++ ((codes "," ++ decimal top) ++ ((codes "," ++ decimal stride) ++ ((codes "," ++ decimal count) ++ codes ",0,")))

-- The command of TSPL that prints an image (TSPL, BITMAP)
unfoldable pub tspl_file : ImageSettings → Grid → List ℕ
tspl_file s g = tspl_head s.left s.top (line_length s g) (image_width s g) ++ (toned_lines false s g 0 (image_width s g) ++ codes "\r\n")

-- What comes before the packed lines of a label of ZPL: the place, the number of bytes twice, and the number of bytes of
-- a line (ZPL, ^XA, ^FO, ^GF)
unfoldable pub zpl_head : ℕ → ℕ → ℕ → ℕ → List ℕ
zpl_head left top total stride =
    (codes "^XA\n^FO" ++ decimal left) ++ ((codes "," ++ decimal top) ++ ((codes "^GFA," ++ decimal total) ++ ((codes "," ++ decimal total) ++ ((codes "," ++ decimal stride) ++ codes ","))))

-- The label of ZPL that prints an image (ZPL, ^XA, ^FO, ^GF, ^XZ)
unfoldable pub zpl_file : ImageSettings → Grid → List ℕ
zpl_file s g = zpl_head s.left s.top (image_width s g * line_length s g) (line_length s g) ++ (packed_rows s g ++ codes "^FS\n^XZ\n")
