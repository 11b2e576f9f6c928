-- What `qrproved_pdf` writes, and when it refuses a buffer as too short. It writes `count` squares of `side` rows as a PDF
-- document in two colours. The buffer `modules` begins with a byte for each module, one square after the other and row by
-- row.
use Rattle.std.specs.Prelude.{ℕ, ◌≡◌, ◌⊎◌, ◌/◌, ◌%◌, ◌≤◌, ◌==◌, if◌then◌else◌, List, None, Some}
use Rattle.qr_documents.specs.Document.{document}
use Rattle.qr_documents.specs.declared.document.Document.TheVariants.{Pdf}
use Rattle.qr_documents.specs.declared.document.DocumentSettings.{DocumentSettings}
use Rattle.qrproved.specs.Drawing.{LacksModules, LacksTextRoom, squares_of_bytes}

-- What the numbers of a caller mean. A colour is 0xRRGGBBAA, and a light one whose lowest byte is 0 is not drawn [own]
abbrev pub settings_of : (margin micrometres dark light : ℕ) → DocumentSettings
settings_of margin micrometres dark light = record {
  format = Pdf;
  margin = margin;
  micrometres = micrometres;
  colours = Some (record { dark = dark / 256; light = if light % 256 == 0 then None else Some (light / 256) });
}

-- All numbers are in range: the dark colour is opaque, and the light one is opaque or not drawn. The greatest side is that
-- of version 40 in modules, and a series has at most 16 symbols [own]
abbrev pub ArePdfSettings : (side count margin micrometres dark light : ℕ) → Type 0
ArePdfSettings side count margin micrometres dark light =
    (1 ≤ side) × (side ≤ 177) × (1 ≤ count) × (count ≤ 16) × (margin ≤ 100) × (1 ≤ micrometres) × (micrometres ≤ 1000000)
    × (dark % 256 ≡ 255) × ((light % 256 ≡ 0) ⊎ (light % 256 ≡ 255))

-- The document of the squares that the first bytes of `bytes` give [own]
abbrev pub pdf_of_bytes : (side count margin micrometres dark light : ℕ) → List ℕ → List ℕ
pdf_of_bytes side count margin micrometres dark light bytes =
    document (settings_of margin micrometres dark light) (squares_of_bytes side count bytes)

-- The numbers are in range, but `modules` has fewer bytes than the squares have modules [own]
abbrev pub LacksPdfModules : (modules : List ℕ) (side count margin micrometres dark light : ℕ) → Type 0
LacksPdfModules modules side count margin micrometres dark light =
    LacksModules (ArePdfSettings side count margin micrometres dark light) modules side count

-- The numbers are in range and `modules` has enough bytes, but `text`, the buffer for the document, is shorter than the
-- document [own]
abbrev pub LacksPdfRoom : (modules : List ℕ) (side count margin micrometres dark light : ℕ) (text : List ℕ) → Type 0
LacksPdfRoom modules side count margin micrometres dark light text =
    LacksTextRoom (ArePdfSettings side count margin micrometres dark light) modules side count
    (pdf_of_bytes side count margin micrometres dark light modules) text
