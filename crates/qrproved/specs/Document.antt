-- What `qrproved_document` writes, and when it refuses a buffer as too short. It takes squares as `qrproved_draw` does.
use Rattle.std.specs.Prelude.{ℕ, ◌<◌, ◌≤◌, ◌==◌, if◌then◌else◌, List, None}
use Rattle.qr_documents.specs.declared.document.Document.{Document}
use Rattle.qr_documents.specs.declared.document.Document.TheVariants.{Eps, Pdf, Svg}
use Rattle.qr_documents.specs.Document.{document}
use Rattle.qrproved.specs.Drawing.{LacksModules, LacksTextRoom, squares_of_bytes}

-- The format that the number `n` of a caller means: 0 is SVG with a size in millimetres, 1 is EPS and 2 is PDF. Numbers
-- above 2 are out of range [own]
abbrev pub format_of : ℕ → Document
format_of n = if n == 0 then Svg else (if n == 1 then Eps else Pdf)

-- The numbers are in range. Their bounds are those of `qrproved_draw`, and a module is from 1 micrometre to 1 metre wide
-- [own]
abbrev pub AreDocumentSettings : (side count format margin micrometres : ℕ) → Type 0
AreDocumentSettings side count format margin micrometres =
    (1 ≤ side) × (side ≤ 177) × (1 ≤ count) × (count ≤ 16) × (format < 3) × (margin ≤ 100) × (1 ≤ micrometres) × (micrometres ≤ 1000000)

-- The document of the `count` squares that the first bytes of `bytes` give, black on white [own]
abbrev pub document_of_bytes : (side count format margin micrometres : ℕ) → List ℕ → List ℕ
document_of_bytes side count format margin micrometres bytes =
    document (record { format = format_of format; margin = margin; micrometres = micrometres; colours = None }) (squares_of_bytes side count bytes)

-- The numbers are in range, but `modules` has fewer bytes than the squares have modules [own]
abbrev pub LacksDocumentModules : (modules : List ℕ) (side count format margin micrometres : ℕ) → Type 0
LacksDocumentModules modules side count format margin micrometres =
    LacksModules (AreDocumentSettings side count format margin micrometres) modules side count

-- The numbers are in range and `modules` has enough bytes, but `text`, the buffer for the document, is shorter than the
-- document [own]
abbrev pub LacksDocumentRoom : (modules : List ℕ) (side count format margin micrometres : ℕ) (text : List ℕ) → Type 0
LacksDocumentRoom modules side count format margin micrometres text =
    LacksTextRoom (AreDocumentSettings side count format margin micrometres) modules side count
    (document_of_bytes side count format margin micrometres modules) text
