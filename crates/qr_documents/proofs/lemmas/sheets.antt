-- Where labels are on a sheet, and which label is in which place.
use Rattle.qr_documents.specs.{Pdf.{square_commands}}
use Rattle.qr_documents.specs.Sheets.{FitsSheet, IsSheet, corner_of, label_commands, label_size, place_commands, places_of}
use Rattle.qr_documents.specs.declared.sheets.{Sheet.Sheet, SheetSettings.SheetSettings}
use Rattle.qr_drawing.proofs.Facts.{square_at-item}
use Rattle.qr_matrix.specs.Grid.{Grid, light}
use Rattle.std.proofs.Common.{◌≡◌, ap, subst, ℕ, ◌+◌, ◌-◌, ◌*◌, ◌/◌, ◌%◌, ◌<◌, ◌≤◌, false, true, List, [], ◌++◌, arith, get_or, length, length-append, map, refl}
use Rattle.std.proofs.Math.Nat.{div-le_self, div-lt_iff_lt-mul, mul_comm, mul-le-mul, mul-le-mul_right, mod-lt}
use Rattle.std.proofs.lemmas.{Bool.Decides.nat_tests, List.{Elements.All-get_or, length-map}}
use Rattle.std.specs.{List.All, Prelude.{None, codes, nat_lt}}

-- a sheet has at most 10,000 places
pub few-places : (s : Sheet) → IsSheet s → places_of s ≤ 10000
few-places s is =
    let most : s.columns * s.rows ≤ 100 * 100 = mul-le-mul is.most_columns is.most_rows in
    omega (arith, most)

-- there is a place
pub some-places : (s : Sheet) → IsSheet s → 1 ≤ places_of s
some-places s is = let first = is.first in omega (arith, first)

-- a column or row before the last one is not farther from the first one than the last one
steps-in : (n i step : ℕ) → i < n → i * step ≤ (n - 1) * step
steps-in n i step lt = mul-le-mul_right step (omega (arith, lt))

-- a label is on the paper in each column
pub column-in : (s : Sheet) (size place : ℕ) → IsSheet s → FitsSheet s size → s.left + place % s.columns * s.across + size ≤ s.width
column-in s size place is fits =
    let column : place % s.columns < s.columns = mod-lt place (omega (arith, is.least_columns)) in
    omega (arith, steps-in s.columns (place % s.columns) s.across column, fits.width)

-- a label is on the paper in each row
pub row-in : (s : Sheet) (size place : ℕ) → IsSheet s → FitsSheet s size → place < places_of s → s.top + place / s.columns * s.down + size ≤ s.height
row-in s size place is fits lt =
    let some : 0 < s.columns = omega (arith, is.least_columns) in
    let row : place / s.columns < s.rows = (div-lt_iff_lt-mul some).1 (subst (λ n. place < n) (mul_comm s.columns s.rows) lt) in
    omega (arith, steps-in s.rows (place / s.columns) s.down row, fits.height)

-- a quotient is not greater than what was divided
pub quotient-most : (n k : ℕ) → n / k ≤ n
quotient-most n k = div-le_self n k

-- the places before the first symbol are free
pub free-before : (s : SheetSettings) (squares : List Grid) (page place : ℕ) → page * places_of s.sheet + place < s.sheet.first
    → place_commands s squares page place ≡ []
unfolding place_commands
free-before s squares page place lt =
    let test : nat_lt (page * places_of s.sheet + place) s.sheet.first ≡ true = grind (arith, nat_tests) in
    rw test refl

-- the places after the last symbol are free
pub free-after : {T : Type 0} (grid : T → Grid) (s : SheetSettings) (xs : List T) (page place : ℕ)
    → s.sheet.first + length xs ≤ page * places_of s.sheet + place → place_commands s (map grid xs) page place ≡ []
unfolding place_commands
free-after grid s xs page place le =
    let first : nat_lt (page * places_of s.sheet + place) s.sheet.first ≡ false = grind (arith, nat_tests) in
    let last : nat_lt (page * places_of s.sheet + place) (s.sheet.first + length xs) ≡ false = grind (arith, nat_tests) in
    rw (length-map xs grid, first, last) refl

-- the label in a place that is not free
pub label-at : {T : Type 0} (grid : T → Grid) (s : SheetSettings) (xs : List T) (x : T) (page place i : ℕ) → s.sheet.first + i ≡ page * places_of s.sheet + place → i < length xs
    → x ≡ get_or xs i x → place_commands s (map grid xs) page place ≡ label_commands s (grid x) place
unfolding place_commands
label-at grid s xs x page place i e lt is =
    let first : nat_lt (page * places_of s.sheet + place) s.sheet.first ≡ false = grind (arith, nat_tests) in
    let last : nat_lt (page * places_of s.sheet + place) (s.sheet.first + length xs) ≡ true = grind (arith, nat_tests) in
    let index : page * places_of s.sheet + place - s.sheet.first ≡ i = omega (arith, e) in
    rw (length-map xs grid, first, last, index, square_at-item grid xs i x lt is) refl

-- each symbol fits its place
pub fits-at : {T : Type 0} (grid : T → Grid) (s : SheetSettings) (xs : List T) (x : T) (i : ℕ) → All (λ g. FitsSheet s.sheet (label_size s g)) (map grid xs) → i < length xs
    → x ≡ get_or xs i x → FitsSheet s.sheet (label_size s (grid x))
fits-at grid s xs x i all lt is =
    let n : length (map grid xs) ≡ length xs = length-map xs grid in
    subst (λ g. FitsSheet s.sheet (label_size s g)) (square_at-item grid xs i x lt is)
    (All-get_or (λ g. FitsSheet s.sheet (label_size s g)) (map grid xs) i (light 0) (omega (arith, lt, n)) all)

-- the length of the commands of a label
pub label-length : (s : SheetSettings) (g : Grid) (place : ℕ) → length (label_commands s g place)
    ≡ length (square_commands None s.micrometres (corner_of s.sheet (label_size s g) place) s.margin g) + 4
unfolding label_commands
label-length s g place = search (arith, length-append)

-- the length of the commands of a place with a label
pub label-length-is : (s : SheetSettings) (margin place n : ℕ) (g : Grid) (corner text : List ℕ) → text ≡ label_commands s g place → margin ≡ s.margin
    → corner ≡ corner_of s.sheet (label_size s g) place → n ≡ length (square_commands None s.micrometres corner margin g) → n + 4 ≡ length text
label-length-is s margin place n g corner text e m k v =
    let one : n ≡ length (square_commands None s.micrometres (corner_of s.sheet (label_size s g) place) s.margin g) = cc (v, k, m) in
    omega (arith, one, label-length s g place, ap length e)

-- the commands of a place with a label are written in three parts
pub label-parts : (s : SheetSettings) (margin place : ℕ) (g : Grid) (corner text : List ℕ) → text ≡ label_commands s g place → margin ≡ s.margin
    → corner ≡ corner_of s.sheet (label_size s g) place → text ≡ (codes "q " ++ square_commands None s.micrometres corner margin g) ++ codes "Q\n"
unfolding label_commands
label-parts s margin place g corner text e m k = rw (e, m, k) refl
