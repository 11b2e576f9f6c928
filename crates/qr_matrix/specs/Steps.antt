-- What the code computes on the way to its results. The subjects are bit rows, pairs of squares, dark runs, what the
-- penalty counts, and the transposition of a square in tiles of 64 by 64 modules. In a pair, the words of two squares
-- are stored side by side. `line c` is the colour of module `c` of a row or column of `s` modules, and `dark r c` the
-- colour in row `r` and column `c` of a square of side `s`.
use Rattle.std.specs.Prelude.{◌≡◌, ℕ, ◌+◌, ◌-◌, ◌*◌, ◌%◌, ◌^◌, ◌<◌, ◌≤◌, ◌&&◌, ◌||◌, not, Bool, List, [], ◌∷◌, length, slice_index, slice_index_or, map, nat_le, nat_lt, if◌then◌else◌}
use Rattle.std.specs.List.{filter, range_with_len}
use Rattle.qr_matrix.specs.Grid.{is_same}
use Rattle.qr_matrix.specs.Sums.{count_below, places_passing, sum_below}
use Rattle.qr_matrix.specs.Penalty.{finder_ratio, four_light, is_square_of_two, over_lines, reads, run_cost, square_count, window_count}
use Rattle.qr_matrix.specs.Runs.{begins_five, joins, place_cost}
use Rattle.qr_matrix.specs.BitRow.{has, has_bit}
use Rattle.qr_matrix.specs.declared.dark_runs.Run.{Run}

-- `words` are three numbers of at most 64 bits each, which are the words of a bit row
abbrev pub AreWords : List ℕ → Type 0
AreWords words = (length words ≡ 3) × (slice_index words 0 < 2 ^ 64) × (slice_index words 1 < 2 ^ 64) × (slice_index words 2 < 2 ^ 64)

-- `words` is the least number of words of 64 bits that can store a row of `side` modules. It is at most 3, as many as a
-- bit row has
pub record NeedsWords (side words : ℕ) : Type 0 where
  pub least : 64 * (words - 1) < side
  pub most : side ≤ 64 * words
  pub three : words ≤ 3

-- For how many of the columns 0 to 191 of a bit row `bit` is true
unfoldable pub set_count : (ℕ → Bool) → ℕ
set_count bit = count_below 192 bit

-- The number of bits of a bit row that are 1
abbrev pub size_of : List ℕ → ℕ
size_of words = set_count (has words)

-- `words` are two numbers of at most 64 bits each: a word of the first square, and a word of the second
abbrev pub IsPair : List ℕ → Type 0
IsPair words = (length words ≡ 2) × (slice_index words 0 < 2 ^ 64) × (slice_index words 1 < 2 ^ 64)

-- `words` has a word of the first square, and then a word of the second. The value is the word of the second square if
-- `second` is true, and otherwise the word of the first
abbrev pub word_of : List ℕ → Bool → ℕ
word_of words second = slice_index words (if second then 1 else 0)

-- The bit row of the second square if `second` is true, and otherwise that of the first. `pairs` has three pairs of
-- words. Pair `k` is the word with the index `k` of the first square's bit row and the word with this index of the
-- second's
unfoldable pub lane : List (List ℕ) → Bool → List ℕ
lane pairs second = word_of (slice_index_or pairs 0 []) second ∷ word_of (slice_index_or pairs 1 []) second ∷ word_of (slice_index_or pairs 2 []) second ∷ []

-- All bit rows of the second square if `second` is true, and otherwise those of the first, from the top down. An
-- element of `rows` has the bit rows of both squares for one row of modules, word beside word
abbrev pub lanes : List (List (List ℕ)) → Bool → List (List ℕ)
lanes rows second = map (λ pairs. lane pairs second) rows

-- Of the `n` columns from column `k` on, those that pass the test `p`, from left to right
unfoldable pub columns_passing : (ℕ → Bool) → ℕ → ℕ → List ℕ
columns_passing p k n = filter p (range_with_len k n)

-- The indices of the bits of a bit row that are 1, in increasing order
abbrev pub set_bits : List ℕ → List ℕ
set_bits words = columns_passing (has words) 0 192

-- Module `c` of `line` has another colour than the module before it, where module 0 is compared with a light module. So
-- a dark run starts or ends at each such module
unfoldable pub is_change : (ℕ → Bool) → ℕ → Bool
is_change line c = not (is_same (line c) (nat_lt 0 c && line (c - 1)))

-- The runs whose starts and ends are listed. The list has the start of the first run, its end, the start of the second
-- run, its end and so on. The end of a run is the column after its last module
abbrev pub runs_between : List ℕ → List Run
runs_between (start ∷ end ∷ columns) = record { start = start; end = end } ∷ runs_between columns
runs_between columns = []

-- Module `c` of `line` is charged a point for runs: five modules of one colour begin with it, or with one of the two
-- modules before it. So in a run of five or more modules all but the last two are charged
unfoldable pub is_charged : ℕ → (ℕ → Bool) → ℕ → Bool
is_charged s line c = (begins_five s line c || (nat_lt 0 c && begins_five s line (c - 1))) || (nat_lt 1 c && begins_five s line (c - 2))

-- The number of modules of row `r` that are charged a point for a run of their column, as `is_charged` says
unfoldable pub row_share : ℕ → (ℕ → ℕ → Bool) → ℕ → ℕ
row_share s dark r = count_below s (λ c. is_charged s (λ i. dark i c) r)

-- In column `c` of a square, the modules in the rows `r` and `r + 1` exist and have the same colour
abbrev pub joins_down : ℕ → (ℕ → ℕ → Bool) → ℕ → ℕ → Bool
joins_down s dark c r = nat_lt c s && joins s (λ i. dark i c) r

-- The five modules of a column in the rows `r` to `r + 4` have one colour. `join k` says that the modules in the rows
-- `k` and `k + 1` have the same colour
abbrev pub begin_five : (ℕ → Bool) → ℕ → Bool
begin_five join r = (join r && join (r + 1)) && (join (r + 2) && join (r + 3))

-- Five modules of one colour begin in row `r` of a column, or in one of the two rows above it, so that the module in
-- row `r` is charged a point. `join k` says that the modules in the rows `k` and `k + 1` have the same colour
abbrev pub is_near_five : (ℕ → Bool) → ℕ → Bool
is_near_five join r = (begin_five join r || (nat_lt 0 r && begin_five join (r - 1))) || (nat_lt 1 r && begin_five join (r - 2))

-- What the code knows of a column when it has compared `n` modules, from row 0 on, each with the module below it. For
-- the comparison `k`, counted from 0, `join k` says whether the modules in the rows `k` and `k + 1` have the same
-- colour. `same` is true if the last comparison found equal colours, `threes` if the last two did, and `fives` if the
-- last four did. `earlier_threes` and `earlier_fives` are what `threes` and `fives` were one comparison earlier
pub record IsAbove (join : ℕ → Bool) (n : ℕ) (same threes earlier_threes fives earlier_fives : Bool) : Type 0 where
  pub same_is : same ≡ (nat_lt 0 n && join (n - 1))
  pub threes_are : threes ≡ (nat_lt 1 n && (join (n - 2) && join (n - 1)))
  pub earlier_threes_are : earlier_threes ≡ (nat_lt 2 n && (join (n - 3) && join (n - 2)))
  pub fives_are : fives ≡ (nat_lt 3 n && begin_five join (n - 4))
  pub earlier_fives_are : earlier_fives ≡ (nat_lt 4 n && begin_five join (n - 5))

-- What is counted when the first `n` rows of a square are done. `runs` is a sum of points: all points for runs that lie
-- in one of these rows, and one point for each module of the first `n - 3` rows that is charged a point (`is_charged`)
-- for a run of its column. `squares` is the number of two by two squares of one colour whose upper row is one of the
-- `n` rows. The bounds show that the two numbers do not overflow
pub record IsCountedTo (s : ℕ) (dark : ℕ → ℕ → Bool) (n runs squares : ℕ) : Type 0 where
  pub runs_are : runs ≡ sum_below n (λ r. place_cost s (dark r)) + sum_below (n - 3) (row_share s dark)
  pub runs_most : runs ≤ 192 * n + 192 * (n - 3)
  pub squares_are : squares ≡ sum_below n (λ r. count_below s (is_square_of_two s dark r))
  pub squares_most : squares ≤ 192 * n

-- A window begins at module `r` of `line`, and is inside the square: its first seven modules have the ratio 1:1:3:1:1,
-- and its last four are light
abbrev pub is_before_light : ℕ → (ℕ → Bool) → ℕ → Bool
is_before_light s line r = nat_le (r + 11) s && (reads line r finder_ratio && reads line (r + 7) four_light)

-- A window begins at module `r` of `line`, and is inside the square: its first four modules are light, and its last
-- seven have the ratio 1:1:3:1:1
abbrev pub is_after_light : ℕ → (ℕ → Bool) → ℕ → Bool
is_after_light s line r = nat_le (r + 11) s && (reads line r four_light && reads line (r + 4) finder_ratio)

-- A window of a column is counted when the code comes to row `r`. There are two cases: the window begins in row `r`
-- with the ratio 1:1:3:1:1, or it begins three rows above with its four light modules, the last of which is in row `r`
unfoldable pub is_found : ℕ → (ℕ → Bool) → ℕ → Bool
is_found s line r = is_before_light s line r || (nat_lt 2 r && is_after_light s line (r - 3))

-- `windows` is the number of windows that are counted when the first `n` rows are done. These are all windows in the
-- rows themselves, and the windows in columns that are counted (`is_found`) at one of these rows
pub record AreWindowsTo (s : ℕ) (dark : ℕ → ℕ → Bool) (n windows : ℕ) : Type 0 where
  pub windows_are : windows ≡ sum_below n (λ r. window_count s (dark r)) + sum_below n (λ r. count_below s (λ c. is_found s (λ i. dark i c) r))
  pub windows_most : windows ≤ 384 * n

-- The bit in row `r` and column `c` of a tile of 64 by 64 modules. Row `r` of the tile is the word with the index `r`,
-- and column 0 is the lowest bit of a word
unfoldable pub bit_in : List ℕ → ℕ → ℕ → Bool
bit_in words r c = has_bit (slice_index words r) c

-- The tile `f` when one stage of its transposition has exchanged some of its parts of `s` by `s` bits. Two by two
-- neighbouring parts form a group. In each group the upper right part and the lower left one are exchanged
unfoldable pub exchanged : ℕ → (ℕ → ℕ → Bool) → ℕ → ℕ → Bool
exchanged s f r c =
    if nat_lt (r % (2 * s)) s
    then (if nat_lt (c % (2 * s)) s then f r c else f (r + s) (c - s))
    else (if nat_lt (c % (2 * s)) s then f (r - s) (c + s) else f r c)

-- What the penalty needs of a square. `runs` are the points for runs. `squares`, `windows` and `darks` are the numbers
-- of two by two squares of one colour, of windows and of dark modules. The bounds show that the numbers do not overflow
pub record IsCounted (s : ℕ) (dark : ℕ → ℕ → Bool) (runs squares windows darks : ℕ) : Type 0 where
  pub runs_are : runs ≡ over_lines s dark (run_cost s)
  pub squares_are : squares ≡ square_count s dark
  pub windows_are : windows ≡ over_lines s dark (window_count s)
  pub darks_are : darks ≡ places_passing s dark
  pub runs_most : runs ≤ 384 * 177
  pub squares_most : squares ≤ 192 * 177
  pub windows_most : windows ≤ 384 * 177
  pub darks_most : darks ≤ 192 * 177
