-- What a file for a printer prints, by the rules of the printer's language.
use Rattle.std.specs.Prelude.{◌≡◌, ◌≤◌, ◌<◌, ℕ, ◌+◌, ◌*◌, ◌/◌, false, [], ◌∷◌, ◌++◌, codes, Some, None}
use Rattle.qr_matrix.specs.Grid.{Grid}
use Rattle.qr_matrix.specs.Raster.{is_dark_at, raster_width}
use Rattle.qr_images.specs.EscPos.{print}
use Rattle.qr_images.specs.Labels.{Label}
use Rattle.qr_images.specs.Pbm.{Bitmap, is_black}
use Rattle.qr_images.specs.Printing.{escpos_file, tspl_file, zpl_file}
use Rattle.qr_images.specs.Tspl.{bitmap_command}
use Rattle.qr_images.specs.Image.{repeated}
use Rattle.qr_images.specs.Zpl.{Graphic, read_bytes, zpl_label}
use Rattle.qr_images.specs.declared.image.ImageSettings.{ImageSettings}

-- The bitmap shows the raster of the square `g`: it has `scale` dots for each module of the raster on each side, and a
-- dot is black exactly if its module is dark. A line has whole bytes, so up to seven dots may follow after the raster's
-- last column: they are white [own]
pub record ShowsInBytes (margin : ℕ) (g : Grid) (scale : ℕ) (p : Bitmap) : Type 0 where
  pub width : p.width ≡ 8 * ((raster_width margin g * scale + 7) / 8)
  pub height : p.height ≡ raster_width margin g * scale
  pub dots : (y x : ℕ) → y < p.height → x < raster_width margin g * scale → is_black p y x ≡ is_dark_at margin g (y / scale) (x / scale)
  pub rest : (y x : ℕ) → y < p.height → raster_width margin g * scale ≤ x → x < p.width → is_black p y x ≡ false

-- The settings and the square are such as `write_image` takes [own]
pub record IsPrintable (s : ImageSettings) (g : Grid) : Type 0 where
  pub some : 1 ≤ s.scale
  pub scale : s.scale ≤ 100
  pub margin : s.margin ≤ 100
  pub left : s.left ≤ 32000
  pub top : s.top ≤ 32000
  pub least : 1 ≤ g.side
  pub most : g.side ≤ 177

-- Each file, read by the rules of ESC/POS, prints a bitmap that shows the raster of its square [own]
abbrev pub ReceiptsAreReadBack : Type 0
ReceiptsAreReadBack = (s : ImageSettings) (g : Grid) → IsPrintable s g → (p : Bitmap) × (print (escpos_file s g) ≡ Some p) × ShowsInBytes s.margin g s.scale p

-- The label has a bitmap at the place that the settings say, which shows the raster of the square [own]
abbrev pub IsLabelOf : ImageSettings → Grid → Label → Type 0
IsLabelOf s g l = (l.left ≡ s.left) × (l.top ≡ s.top) × ShowsInBytes s.margin g s.scale l.bitmap

-- Each file, read by the rules of TSPL, prints a label of its square [own]
abbrev pub TsplLabelsAreReadBack : Type 0
TsplLabelsAreReadBack = (s : ImageSettings) (g : Grid) → IsPrintable s g → (l : Label) × (bitmap_command (tspl_file s g) ≡ Some l) × IsLabelOf s g l

-- Each file, read by the rules of ZPL, prints a label of its square [own]
abbrev pub ZplLabelsAreReadBack : Type 0
ZplLabelsAreReadBack = (s : ImageSettings) (g : Grid) → IsPrintable s g → (l : Label) × (zpl_label (zpl_file s g) ≡ Some l) × IsLabelOf s g l

-- A graphic of ZPL without a digit, before its first line [own]
abbrev pub no_graphic : Graphic
no_graphic = record { digits = []; count = 0 }

-- Examples of packed lines, worked out by hand [own]
pub record PackedLinesCompute : Type 0 where
  -- a line of eight digits that a comma fills, the same again, and a line that is black
  pub signs : read_bytes 8 no_graphic (codes "I5A2,:!") ≡
      Some (record { digits = 5 ∷ 5 ∷ 5 ∷ 10 ∷ 2 ∷ 0 ∷ 0 ∷ 0 ∷ 5 ∷ 5 ∷ 5 ∷ 10 ∷ 2 ∷ 0 ∷ 0 ∷ 0 ∷ repeated 8 (15 ∷ []); count = 0 })
  -- 320 and 7
  pub many : read_bytes 400 no_graphic (codes "vMB") ≡ Some (record { digits = repeated 327 (11 ∷ []); count = 0 })
  -- nine digits are too many for a line of eight
  pub over : read_bytes 8 no_graphic (codes "O0") ≡ None
  -- there is no line above the first
  pub above : read_bytes 8 no_graphic (codes ":") ≡ None
  -- a line that is not complete is not repeated
  pub part : read_bytes 8 no_graphic (codes ",J5:") ≡ None

-- Examples of files, worked out by hand: a bitmap of eight dots by two lines, which are one black dot at the left end and
-- eight black dots [own]
pub record PrintersCompute : Type 0 where
  pub escpos : print (0x1D ∷ 0x76 ∷ 0x30 ∷ 0 ∷ 1 ∷ 0 ∷ 2 ∷ 0 ∷ 128 ∷ 255 ∷ []) ≡ Some (record { width = 8; height = 2; lines = 128 ∷ 255 ∷ [] })
  pub bands : print (0x1D ∷ 0x76 ∷ 0x30 ∷ 0 ∷ 1 ∷ 0 ∷ 1 ∷ 0 ∷ 128 ∷ 0x1D ∷ 0x76 ∷ 0x30 ∷ 0 ∷ 1 ∷ 0 ∷ 1 ∷ 0 ∷ 255 ∷ []) ≡ Some (record { width = 8; height = 2; lines = 128 ∷ 255 ∷ [] })
  pub tspl : bitmap_command (codes "BITMAP 12,345,1,2,0," ++ (127 ∷ 0 ∷ codes "\r\n")) ≡
      Some (record { left = 12; top = 345; bitmap = record { width = 8; height = 2; lines = 128 ∷ 255 ∷ [] } })
  pub zpl : zpl_label (codes "^XA\n^FO12,345^GFA,2,2,1,80HF^FS\n^XZ\n") ≡
      Some (record { left = 12; top = 345; bitmap = record { width = 8; height = 2; lines = 128 ∷ 255 ∷ [] } })
  -- a byte is missing
  pub short : bitmap_command (codes "BITMAP 12,345,1,2,0," ++ (127 ∷ codes "\r\n")) ≡ None
  -- the two numbers of bytes are not the same
  pub unequal : zpl_label (codes "^XA\n^FO12,345^GFA,3,2,1,80HF^FS\n^XZ\n") ≡ None
  -- the place is out of range
  pub far : zpl_label (codes "^XA\n^FO32001,345^GFA,2,2,1,80HF^FS\n^XZ\n") ≡ None
