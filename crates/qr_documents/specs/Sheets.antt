-- The PDF document of symbols as labels on sheets of label paper. A sheet has places for labels, in columns and rows.
-- All lengths on paper are in micrometres. A label is a symbol with its light margin.
use Rattle.std.specs.Prelude.{ℕ, ◌+◌, ◌-◌, ◌*◌, ◌/◌, ◌%◌, ◌<◌, ◌≤◌, nat_lt, if◌then◌else◌, List, [], ◌++◌, codes, length, None}
use Rattle.qr_matrix.specs.Grid.{Grid}
use Rattle.qr_matrix.specs.Raster.{raster_width}
use Rattle.qr_documents.specs.Measures.{points}
use Rattle.qr_documents.specs.Pdf.{Pages, document_of_pages, square_commands}
use Rattle.qr_drawing.specs.Raster.{texts_below}
use Rattle.qr_drawing.specs.Svg.{square_at}
use Rattle.qr_documents.specs.declared.sheets.Sheet.{Sheet}
use Rattle.qr_documents.specs.declared.sheets.SheetSettings.{SheetSettings}

-- How many places a sheet has [own]
abbrev pub places_of : Sheet → ℕ
places_of s = s.columns * s.rows

-- The numbers of a sheet are in range: it is at most 2 metres wide and high, has 1 to 100 columns and rows, and not all
-- places of the first sheet stay free [own]
pub record IsSheet (s : Sheet) : Type 0 where
  pub width : s.width ≤ 2000000
  pub height : s.height ≤ 2000000
  pub least_columns : 1 ≤ s.columns
  pub most_columns : s.columns ≤ 100
  pub least_rows : 1 ≤ s.rows
  pub most_rows : s.rows ≤ 100
  pub first : s.first < places_of s

-- Labels that are `size` wide and high are on the paper in all places of the sheet, and none covers another [own]
pub record FitsSheet (s : Sheet) (size : ℕ) : Type 0 where
  pub width : s.left + (s.columns - 1) * s.across + size ≤ s.width
  pub height : s.top + (s.rows - 1) * s.down + size ≤ s.height
  pub across : 1 < s.columns → size ≤ s.across
  pub down : 1 < s.rows → size ≤ s.down

-- How wide and high a label is [own]
abbrev pub label_size : SheetSettings → Grid → ℕ
label_size s g = raster_width s.margin g * s.micrometres

-- The lower left corner of a label in this place, from the left and the lower edge of the paper. The places are counted
-- from 0, row by row from the upper left. In PDF heights are counted from the lower edge (ISO 32000-1, 8.3.2.3)
unfoldable pub corner_of : Sheet → ℕ → ℕ → List ℕ
corner_of s size place =
    points (s.left + place % s.columns * s.across) ++ codes " " ++ points (s.height - (s.top + place / s.columns * s.down) - size)

-- The commands that draw a label, black on white. What they change for it, the unit, the origin and the colour, is
-- restored after it (ISO 32000-1, 8.4.2)
unfoldable pub label_commands : SheetSettings → Grid → ℕ → List ℕ
label_commands s g place =
    codes "q " ++ square_commands None s.micrometres (corner_of s.sheet (label_size s g) place) s.margin g ++ codes "Q\n"

-- The commands for a place of a sheet. The places of all sheets are counted one after the other: the first ones stay
-- free, then each has the next symbol, and those after the last symbol are free too [own]
unfoldable pub place_commands : SheetSettings → List Grid → ℕ → ℕ → List ℕ
place_commands s squares page place =
    let k = page * places_of s.sheet + place in
    if nat_lt k s.sheet.first then [] else (if nat_lt k (s.sheet.first + length squares)
    then label_commands s (square_at squares (k - s.sheet.first)) place else [])

-- The sheets, as pages of a document: as many as the free places and the symbols need [own]
abbrev pub sheet_pages : SheetSettings → List Grid → Pages
sheet_pages s squares = record {
  count = (s.sheet.first + length squares - 1) / places_of s.sheet + 1;
  width = λ page. s.sheet.width;
  height = λ page. s.sheet.height;
  commands = λ page. texts_below (places_of s.sheet) (place_commands s squares page);
}

-- The PDF document of the symbols as labels on sheets [own]
abbrev pub sheets_document : SheetSettings → List Grid → List ℕ
sheets_document s squares = document_of_pages (sheet_pages s squares)
