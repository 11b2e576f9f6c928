-- PDF documents. Such a document consists of a header, objects, a table of the places of these objects, and a trailer
-- (ISO 32000-1, 7.5). A length on paper is given in micrometres, and so is `micrometres`, the width of a module, which
-- is also its height.
use Rattle.std.specs.Prelude.{ℕ, ◌+◌, ◌-◌, ◌*◌, ◌/◌, ◌%◌, ◌==◌, if◌then◌else◌, List, ◌++◌, codes, decimal, length, Option}
use Rattle.qr_matrix.specs.Grid.{Grid}
use Rattle.qr_matrix.specs.Raster.{raster_width}
use Rattle.qr_documents.specs.Boxes.{symbol_lines}
use Rattle.qr_documents.specs.Colours.{dark_colour, light_square}
use Rattle.qr_documents.specs.declared.colours.Colours.{Colours}
use Rattle.qr_documents.specs.Measures.{last_digits, points}
use Rattle.qr_drawing.specs.Raster.{texts_below}
use Rattle.qr_drawing.specs.Svg.{numbered, square_at}

-- The pages of a document: how many there are, how wide and high each is, and the commands that draw it. The pages are
-- counted from 0 [own]
pub record Pages : Type 0 where
  pub count : ℕ
  pub width : ℕ → ℕ
  pub height : ℕ → ℕ
  pub commands : ℕ → List ℕ

-- The first line, which names the version of PDF (ISO 32000-1, 7.5.2)
unfoldable pub pdf_header : List ℕ
pdf_header = codes "%PDF-1.4\n"

-- The first object: the catalog, which names the page tree (ISO 32000-1, 7.7.2)
unfoldable pub catalog : List ℕ
catalog = codes "<</Type/Catalog/Pages 2 0 R>>"

-- The second object: the page tree, which names the pages. Each page is followed by its content, so the pages are the
-- objects 3, 5, 7 and so on (ISO 32000-1, 7.7.3.2)
unfoldable pub page_tree : ℕ → List ℕ
page_tree pages =
    codes "<</Type/Pages/Kids[3 0 R" ++ texts_below (pages - 1) (λ k. numbered (codes " ") (5 + 2 * k) ++ codes " 0 R")
    ++ numbered (codes "]/Count ") pages ++ codes ">>"

-- A page of this size, whose content is the object with the number `content` (ISO 32000-1, 7.7.3.3)
unfoldable pub page : ℕ → ℕ → ℕ → List ℕ
page width height content =
    codes "<</Type/Page/Parent 2 0 R/MediaBox[0 0 " ++ points width ++ codes " " ++ points height
    ++ numbered (codes "]/Resources<<>>/Contents ") content ++ codes " 0 R>>"

-- What comes before the bytes of a stream that has `length` bytes (ISO 32000-1, 7.3.8)
unfoldable pub stream_start : ℕ → List ℕ
stream_start length = numbered (codes "<</Length ") length ++ codes ">>\nstream\n"

-- A stream (ISO 32000-1, 7.3.8)
unfoldable pub stream : List ℕ → List ℕ
stream text = stream_start (length text) ++ text ++ codes "endstream"

-- What the object with the index `i`, counted from 0, contains. Its number is `i + 1` [own]
unfoldable pub object_content : Pages → ℕ → List ℕ
object_content p i =
    let k = (i - 2) / 2 in
    if i == 0 then catalog else (if i == 1 then page_tree p.count
    else (if i % 2 == 0 then page (p.width k) (p.height k) (i + 2) else stream (p.commands k)))

-- The beginning of an object (ISO 32000-1, 7.3.10)
unfoldable pub object_start : ℕ → List ℕ
object_start number = decimal number ++ codes " 0 obj\n"

-- The object with this number (ISO 32000-1, 7.3.10)
unfoldable pub numbered_object : ℕ → List ℕ → List ℕ
numbered_object number content = object_start number ++ content ++ codes "\nendobj\n"

-- The object with the index `i` [own]
unfoldable pub object : Pages → ℕ → List ℕ
object p i = numbered_object (i + 1) (object_content p i)

-- The header and the first `n` objects [own]
unfoldable pub objects_below : Pages → ℕ → List ℕ
objects_below p n = pdf_header ++ texts_below n (object p)

-- The line of the table for an object that has `offset` bytes of the document before it (ISO 32000-1, 7.5.4)
unfoldable pub place_line : ℕ → List ℕ
place_line offset = last_digits 10 offset ++ codes " 00000 n \n"

-- The line of the table for the object with the index `i` [own]
unfoldable pub place_of : Pages → ℕ → List ℕ
place_of p i = place_line (length (objects_below p i))

-- The table with the lines of `n` objects. Its first line is for an object that is free (ISO 32000-1, 7.5.4)
unfoldable pub table_of : ℕ → List ℕ → List ℕ
table_of n lines = numbered (codes "xref\n0 ") (n + 1) ++ codes "\n0000000000 65535 f \n" ++ lines

-- The trailer of a document with `n` objects and then, after `start` bytes, the table (ISO 32000-1, 7.5.5)
unfoldable pub trailer : ℕ → ℕ → List ℕ
trailer n start =
    numbered (codes "trailer\n<</Size ") (n + 1) ++ codes "/Root 1 0 R>>\nstartxref\n" ++ decimal start ++ codes "\n%%EOF\n"

-- How many objects a document has: the catalog, the page tree, and two for each page [own]
abbrev pub object_count : Pages → ℕ
object_count p = 2 + 2 * p.count

-- The PDF document with these pages [own]
unfoldable pub document_of_pages : Pages → List ℕ
document_of_pages p =
    let n = object_count p in
    let objects = objects_below p n in
    objects ++ table_of n (texts_below n (place_of p)) ++ trailer n (length objects)

-- The commands that make a module the unit and a square of `width` modules light, and choose the colour of dark modules.
-- The lower left corner of the square is in `corner`, which has two numbers of points (ISO 32000-1, 8.3.4)
unfoldable pub square_start : Option Colours → ℕ → List ℕ → ℕ → List ℕ
square_start colours micrometres corner width =
    points micrometres ++ codes " 0 0 " ++ points micrometres ++ codes " " ++ corner ++ codes " cm\n"
    ++ light_square colours width ++ dark_colour colours

-- The commands that draw a symbol with its margin: its boxes are filled together (ISO 32000-1, 8.5.3.1)
unfoldable pub square_commands : Option Colours → ℕ → List ℕ → ℕ → Grid → List ℕ
square_commands colours micrometres corner margin g =
    square_start colours micrometres corner (raster_width margin g) ++ symbol_lines (codes " 1 re\n") 0 margin g ++ codes "f\n"

-- The pages of symbols of which each has a page for itself, which is as large as its raster [own]
abbrev pub symbol_pages : Option Colours → ℕ → ℕ → List Grid → Pages
symbol_pages colours micrometres margin squares =
    let size : ℕ → ℕ = λ k. raster_width margin (square_at squares k) * micrometres in
    record {
      count = length squares;
      width = size;
      height = size;
      commands = λ k. square_commands colours micrometres (codes "0 0") margin (square_at squares k);
    }

-- The PDF document of the symbols, with a page for each [own]
abbrev pub pdf_document : Option Colours → ℕ → ℕ → List Grid → List ℕ
pdf_document colours micrometres margin squares = document_of_pages (symbol_pages colours micrometres margin squares)
