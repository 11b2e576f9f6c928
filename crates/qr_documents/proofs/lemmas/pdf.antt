-- The parts of a PDF document, their lengths, and the places of its objects.
use Rattle.qr_documents.specs.Boxes.{box_line, symbol_lines}
use Rattle.qr_drawing.specs.Raster.{raster_width, texts_below}
use Rattle.qr_documents.specs.Pdf.{Pages, catalog, document_of_pages, numbered_object, object, object_content, object_count, object_start, objects_below, page, page_tree, pdf_header, place_of, square_commands, square_start, stream, stream_start, table_of, trailer}
use Rattle.qr_drawing.specs.Svg.{numbered}
use Rattle.qr_documents.specs.{Laws.{HasItsPlaces}, declared.colours.Colours.{Colours}}
use Rattle.qr_devices.{proofs.Facts.{writes-on, writes-stop}, specs.{Device.Writer, Writing.{Stops, Writes}, declared.pen.{DrawFault.DrawFault, Pen.Pen}}}
use Rattle.qr_documents.proofs.lemmas.boxes.{line_of}
use Rattle.qr_drawing.proofs.Facts.{three, two, texts_below-add, texts_below-more}
use Rattle.qr_matrix.proofs.Facts.{AreRunsFrom, all-runs, other-runs, run-in}
use Rattle.qr_matrix.specs.{DarkRuns.AreDarkRuns, Grid.Grid, declared.dark_runs.Run.Run}
use Rattle.std.proofs.{Common.{◌≡◌, ◌∙◌, sym, ap, refl, ℕ, ◌+◌, ◌-◌, ◌*◌, ◌/◌, ◌%◌, ◌<◌, ◌≤◌, ◌==◌, false, List, [], ◌∷◌, ◌++◌, append_assoc, append-nil, arith, length, length-append, Ok, Err}, lemmas.{Bool.Decides.nat_tests, Grind.flat_map-append, Fmt.decimal_digit}}
use Rattle.std.specs.{List.flat_map, Prelude.{MatchResult, Option, Result, codes, decimal}}

-- ---- lengths

-- a number below 10 has one digit
pub has_one_digit : (n : ℕ) → n < 10 → 1 ≡ length (decimal n)
has_one_digit n lt = sym (ap length (decimal_digit n lt))

-- a number from 10 to 99 has two digits
pub has_two_digits : (n : ℕ) → 10 ≤ n → n < 100 → 2 ≡ length (decimal n)
has_two_digits n le lt = sym (ap length (two n le lt))

-- a number from 100 to 999 has three digits
pub has_three_digits : (n : ℕ) → 100 ≤ n → n < 1000 → 3 ≡ length (decimal n)
has_three_digits n le lt = sym (ap length (three n le lt))

-- the line of a box has three numbers and eight bytes more
pub line-length : (x up modules : ℕ) → length (box_line (codes " 1 re\n") x up modules) ≡ length (decimal x) + length (decimal modules) + (length (decimal up) + 8)
unfolding box_line numbered
line-length x up modules = search (arith, length-append)

-- a row has no more runs than modules
few-runs-from : (g : Grid) (row col : ℕ) (runs : List Run) → col ≤ g.side → AreRunsFrom g row col runs → length runs ≤ g.side - col
few-runs-from g row col [] le are = omega arith
few-runs-from g row col (run ∷ runs) le are =
    let w = run-in g row col run runs are in
    omega (arith, w.0, w.1, w.2, few-runs-from g row run.end runs w.2 (other-runs g row col run runs are))

pub few-runs : (g : Grid) (row : ℕ) (runs : List Run) → AreDarkRuns g row runs → length runs ≤ g.side
few-runs g row runs are = omega (arith, few-runs-from g row 0 runs (omega arith) (all-runs g row runs are))

-- the length of the commands of a square
pub square-length : (colours : Option Colours) (micrometres margin : ℕ) (corner : List ℕ) (g : Grid) → length (square_commands colours micrometres corner margin g)
    ≡ length (square_start colours micrometres corner (raster_width margin g)) + length (symbol_lines (codes " 1 re\n") 0 margin g) + 2
unfolding square_commands
square-length colours micrometres margin corner g = search (arith, length-append)

-- the length of a stream
pub stream-length : (text : List ℕ) → length (stream text) ≡ length (decimal (length text)) + length text + 29
unfolding stream stream_start numbered
stream-length text = search (arith, length-append)

-- the length of an object
pub object-length : (p : Pages) (i : ℕ) → length (object p i) ≡ length (decimal (i + 1)) + length (object_content p i) + 15
unfolding object numbered_object object_start
object-length p i = search (arith, length-append)

-- the length of the texts of one more place
pub text-length : (n : ℕ) (text : ℕ → List ℕ) (len more : ℕ) → len ≡ length (texts_below n text) → more ≡ length (text n)
    → len + more ≡ length (texts_below (n + 1) text)
text-length n text len more e f = cc (e, f, length-append (texts_below n text) (text n)) ∙ sym (ap length (texts_below-more n text))

-- the number of one more page
abbrev pub kid : ℕ → List ℕ
kid k = numbered (codes " ") (5 + 2 * k) ++ codes " 0 R"

-- the length of one more page's number
pub kid-length : (k : ℕ) → length (texts_below (k + 1) kid) ≡ length (texts_below k kid) + (length (decimal (5 + 2 * k)) + 5)
unfolding numbered
kid-length k =
    let one : length (kid k) ≡ length (decimal (5 + 2 * k)) + 5 = search (arith, length-append) in
    ap length (texts_below-more k kid) ∙ (length-append (texts_below k kid) (kid k) ∙ ap (λ n. length (texts_below k kid) + n) one)

-- the length of the page tree
pub page-tree-length : (pages : ℕ) → length (page_tree pages) ≡ 24 + length (texts_below (pages - 1) kid) + length (decimal pages) + 10
unfolding page_tree numbered
page-tree-length pages = search (arith, length-append)

-- the line of a run by its numbers of digits
pub run-length : (up margin x len : ℕ) (run : Run) (yielded : List Run) → x ≡ length (decimal (margin + run.start)) + length (decimal (run.end - run.start)) + (length (decimal up) + 8)
    → len ≡ length (flat_map (line_of (codes " 1 re\n") up margin) yielded)
    → len + x ≡ length (flat_map (line_of (codes " 1 re\n") up margin) (yielded ++ (run ∷ [])))
run-length up margin x len run yielded e f =
    let line = line_of (codes " 1 re\n") up margin in
    rw (flat_map-append line yielded (run ∷ []), append-nil (line run), length-append (flat_map line yielded) (line run), line-length (margin + run.start) up (run.end - run.start), e, f) refl

-- the page tree is what comes before the other pages, these pages, and its end
pub tree-parts : (pages : ℕ) → page_tree pages
    ≡ (codes "<</Type/Pages/Kids[3 0 R" ++ texts_below (pages - 1) kid) ++ (numbered (codes "]/Count ") pages ++ codes ">>")
unfolding page_tree
tree-parts pages = append_assoc (codes "<</Type/Pages/Kids[3 0 R" ++ texts_below (pages - 1) kid) (numbered (codes "]/Count ") pages) (codes ">>")

-- ---- objects

-- after a text a call writes another one, or fails in it
pub puts-on : {T : Type 0} (a b c : Writer) (i j : ℕ) (h0 h1 x y : List ℕ) (after : Pen) (r : Result T DrawFault) → Writes a b i j (h0 ++ x) h1
    → MatchResult r (λ _. Writes b c j after.interrupted (h1 ++ y) after.piece) (λ _. Stops b c j (h1 ++ y))
    → MatchResult r (λ _. Writes a c i after.interrupted (h0 ++ (x ++ y)) after.piece) (λ _. Stops a c i (h0 ++ (x ++ y)))
puts-on a b c i j h0 h1 x y after (Ok t) p q = writes-on a b c i j after.interrupted h0 h1 after.piece x y p q
puts-on a b c i j h0 h1 x y after (Err f) p q = writes-stop a b c i j h0 h1 x y p q

-- the first object
pub content-first : (p : Pages) (i : ℕ) → i ≡ 0 → object_content p i ≡ catalog
unfolding object_content
content-first p i e = rw e refl

-- the second object
pub content-second : (p : Pages) (i : ℕ) → i ≡ 1 → object_content p i ≡ page_tree p.count
unfolding object_content
content-second p i e = rw e refl

-- a page
pub content-page : (p : Pages) (i : ℕ) → 2 ≤ i → i % 2 ≡ 0 → object_content p i ≡ page (p.width ((i - 2) / 2)) (p.height ((i - 2) / 2)) (i + 2)
unfolding object_content
content-page p i le e =
    let first : (i == 0) ≡ false = grind (arith, nat_tests) in
    let second : (i == 1) ≡ false = grind (arith, nat_tests) in
    rw (first, second, e) refl

-- the commands of a page
pub content-stream : (p : Pages) (i : ℕ) → 2 ≤ i → i % 2 ≡ 1 → object_content p i ≡ stream (p.commands ((i - 2) / 2))
unfolding object_content
content-stream p i le e =
    let first : (i == 0) ≡ false = grind (arith, nat_tests) in
    let second : (i == 1) ≡ false = grind (arith, nat_tests) in
    rw (first, second, e) refl

-- the objects with one more
pub objects-more : (p : Pages) (i : ℕ) → objects_below p (i + 1) ≡ objects_below p i ++ object p i
unfolding objects_below
objects-more p i = ap (λ l. pdf_header ++ l) (texts_below-more i (object p)) ∙ sym (append_assoc pdf_header (texts_below i (object p)) (object p i))

-- the place after one more object
pub next-place : (p : Pages) (i at len : ℕ) → at ≡ length (objects_below p i) → len ≡ length (object p i) → at + len ≡ length (objects_below p (i + 1))
next-place p i at len e f = cc (e, f, length-append (objects_below p i) (object p i)) ∙ sym (ap length (objects-more p i))

-- the place of the first object
pub first-place : (p : Pages) → 9 ≡ length (objects_below p 0)
unfolding objects_below pdf_header texts_below
first-place p = refl

-- the table is its first lines and the others
pub table-parts : (n : ℕ) (lines end : List ℕ) → table_of n lines ++ end ≡ (table_of n [] ++ lines) ++ end
unfolding table_of
table-parts n lines end = simp (append_assoc, append-nil)

-- ---- the law

-- the text of place i is between those before it and those after it
text-between : (i n : ℕ) (f : ℕ → List ℕ) → i < n → texts_below n f ≡ texts_below i f ++ (f i ++ texts_below (n - (i + 1)) (λ j. f (i + 1 + j)))
text-between i n f lt =
    let rest = texts_below (n - (i + 1)) (λ j. f (i + 1 + j)) in
    let e : i + 1 + (n - (i + 1)) ≡ n = omega arith in
    ap (λ m. texts_below m f) (sym e) ∙ (texts_below-add (i + 1) (n - (i + 1)) f ∙ (ap (λ l. l ++ rest) (texts_below-more i f) ∙ append_assoc (texts_below i f) (f i) rest))

-- the first n objects with one of them taken out
objects-between : (p : Pages) (i n : ℕ) → i < n → objects_below p n
    ≡ objects_below p i ++ (object p i ++ texts_below (n - (i + 1)) (λ j. object p (i + 1 + j)))
unfolding objects_below
objects-between p i n lt =
    let f = object p in
    ap (λ l. pdf_header ++ l) (text-between i n f lt)
    ∙ sym (append_assoc pdf_header (texts_below i f) (f i ++ texts_below (n - (i + 1)) (λ j. f (i + 1 + j))))

-- the table and the trailer
end_of : Pages → List ℕ
end_of p = table_of (object_count p) (texts_below (object_count p) (place_of p)) ++ trailer (object_count p) (length (objects_below p (object_count p)))

-- the document is its objects and its end
pub whole-is : (p : Pages) → document_of_pages p ≡ objects_below p (object_count p)
    ++ (table_of (object_count p) (texts_below (object_count p) (place_of p)) ++ trailer (object_count p) (length (objects_below p (object_count p))))
unfolding document_of_pages
whole-is p =
    let n = object_count p in
    append_assoc (objects_below p n) (table_of n (texts_below n (place_of p))) (trailer n (length (objects_below p n)))

-- what comes after the beginning of the table
rest_of : ℕ → List ℕ → List ℕ
rest_of n lines = decimal (n + 1) ++ codes "\n0000000000 65535 f \n" ++ lines

-- the table begins with a word
table-begins : (n : ℕ) (lines : List ℕ) → table_of n lines ≡ codes "xref\n0 " ++ rest_of n lines
unfolding table_of numbered rest_of
table-begins n lines = refl

-- each object, and the table, begins where the document says
pub has-its-places : (p : Pages) → HasItsPlaces p
unfolding end_of
has-its-places p =
    let n = object_count p in
    let objects = objects_below p in
    let lines = texts_below n (place_of p) in
    let last = trailer n (length (objects n)) in
    let end = end_of p in
    record {
      objects = λ i lt.
          let here = object p i in
          let rest = texts_below (n - (i + 1)) (λ j. object p (i + 1 + j)) in (
            objects i,
            rest ++ end,
            whole-is p ∙ (ap (λ l. l ++ end) (objects-between p i n lt) ∙ (append_assoc (objects i) (here ++ rest) end ∙ ap (λ l. objects i ++ l) (append_assoc here rest end))),
            refl,
          );
      table = (
        objects n,
        rest_of n lines ++ last,
        whole-is p ∙ ap (λ l. objects n ++ l) (ap (λ l. l ++ last) (table-begins n lines) ∙ append_assoc (codes "xref\n0 ") (rest_of n lines) last),
        refl,
      );
    }
