-- What `qrproved_sheets` writes, and when it refuses a buffer as too short. It takes squares as `qrproved_draw` does.
use Rattle.std.specs.Prelude.{ℕ, ◌+◌, ◌*◌, ◌≤◌, List}
use Rattle.qr_documents.specs.declared.sheets.{Sheet.Sheet, SheetSettings.SheetSettings}
use Rattle.qr_documents.specs.Sheets.{FitsSheet, IsSheet, sheets_document}
use Rattle.qrproved.specs.declared.sheets.QrprovedSheet.{QrprovedSheet}
use Rattle.qrproved.specs.Drawing.{LacksModules, LacksTextRoom, squares_of_bytes}

-- The label paper that the numbers of a caller mean [own]
abbrev pub sheet_of : QrprovedSheet → Sheet
sheet_of s = record {
  width = s.width;
  height = s.height;
  left = s.left;
  top = s.top;
  across = s.across;
  down = s.down;
  columns = s.columns;
  rows = s.rows;
  first = s.first;
}

-- The settings that the numbers of a caller mean [own]
abbrev pub settings_of : (margin micrometres : ℕ) → QrprovedSheet → SheetSettings
settings_of margin micrometres s = record { margin = margin; micrometres = micrometres; sheet = sheet_of s }

-- The numbers are in range: there are at most 10,000 squares, a module is from 1 micrometre to 1 metre wide, and labels
-- of this size are on the paper in all places, without one covering another [own]
abbrev pub AreSheetSettings : (side count margin micrometres : ℕ) → QrprovedSheet → Type 0
AreSheetSettings side count margin micrometres s =
    (1 ≤ side) × (side ≤ 177) × (1 ≤ count) × (count ≤ 10000) × (margin ≤ 100) × (1 ≤ micrometres) × (micrometres ≤ 1000000)
    × IsSheet (sheet_of s) × FitsSheet (sheet_of s) ((2 * margin + side) * micrometres)

-- The document of the `count` squares that the first bytes of `bytes` give [own]
abbrev pub sheets_of_bytes : (side count margin micrometres : ℕ) → QrprovedSheet → List ℕ → List ℕ
sheets_of_bytes side count margin micrometres s bytes = sheets_document (settings_of margin micrometres s) (squares_of_bytes side count bytes)

-- The numbers are in range, but `modules` has fewer bytes than the squares have modules [own]
abbrev pub LacksSheetModules : (modules : List ℕ) (side count margin micrometres : ℕ) → QrprovedSheet → Type 0
LacksSheetModules modules side count margin micrometres s =
    LacksModules (AreSheetSettings side count margin micrometres s) modules side count

-- The numbers are in range and `modules` has enough bytes, but `text`, the buffer for the document, is shorter than the
-- document [own]
abbrev pub LacksSheetRoom : (modules : List ℕ) (side count margin micrometres : ℕ) → QrprovedSheet → (text : List ℕ) → Type 0
LacksSheetRoom modules side count margin micrometres s text =
    LacksTextRoom (AreSheetSettings side count margin micrometres s) modules side count
    (sheets_of_bytes side count margin micrometres s modules) text
