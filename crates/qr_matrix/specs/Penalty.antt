-- The penalty of a symbol, by which its mask is chosen. `dark r c` is the colour in row `r` and column `c` of a square
-- of side `s`, and `line k` is the colour of module `k` of a row or column.
use Rattle.std.specs.Prelude.{ℕ, ◌+◌, ◌-◌, ◌*◌, ◌/◌, ◌&&◌, ◌||◌, not, Bool, true, false, nat_lt, nat_le, ◌==◌, if◌then◌else◌, List, [], ◌∷◌, ◌++◌}
use Rattle.std.specs.Int.{abs_diff}
use Rattle.qr_matrix.specs.Grid.{is_same}
use Rattle.qr_matrix.specs.Sums.{sum_below, count_below, all_below, places_passing}

-- The `k` modules of `line` from module `a` on are a run: they have one colour, and neither the module before them nor
-- the one after them has it (ISO/IEC 18004:2015, 7.8.3, adjacent modules of the same colour)
unfoldable pub is_run : ℕ → (ℕ → Bool) → ℕ → ℕ → Bool
is_run s line a k =
    nat_le (a + k) s
    && all_below k (λ i. is_same (line (a + i)) (line a))
    && (a == 0 || not (is_same (line (a - 1)) (line a)))
    && (a + k == s || not (is_same (line (a + k)) (line a)))

-- The points for the runs of `line`: a run of `k` modules costs `k - 2` points if `k` is at least 5, and nothing
-- otherwise (ISO/IEC 18004:2015, 7.8.3.1, Table 11)
unfoldable pub run_cost : ℕ → (ℕ → Bool) → ℕ
run_cost s line = sum_below s (λ a. sum_below (s + 1) (λ k. if nat_le 5 k && is_run s line a k then k - 2 else 0))

-- The modules of `line` from module `c` on have the colours that the list has, in the same order [own]
abbrev pub reads : (ℕ → Bool) → ℕ → List Bool → Bool
reads line c [] = true
reads line c (b ∷ bs) = is_same (line c) b && reads line (c + 1) bs

-- The colours of seven modules in the ratio 1:1:3:1:1 of a finder pattern: one dark module, one light one, three dark
-- ones, one light one and one dark one (ISO/IEC 18004:2015, 7.8.3.1, Table 11)
abbrev pub finder_ratio : List Bool
finder_ratio = true ∷ false ∷ true ∷ true ∷ true ∷ false ∷ true ∷ []

-- The colours of the light area in a window. It is four modules wide, and is before or after the ratio 1:1:3:1:1
-- (ISO/IEC 18004:2015, 7.8.3.1, Table 11)
abbrev pub four_light : List Bool
four_light = false ∷ false ∷ false ∷ false ∷ []

-- The eleven modules `c` to `c + 10` of `line` are inside the symbol, and they are a window: the ratio 1:1:3:1:1
-- followed by four light modules, or four light modules followed by this ratio (ISO/IEC 18004:2015, 7.8.3.1, Table 11)
unfoldable pub is_window : ℕ → (ℕ → Bool) → ℕ → Bool
is_window s line c =
    nat_le (c + 11) s && (reads line c (finder_ratio ++ four_light) || reads line c (four_light ++ finder_ratio))

-- The number of windows in `line`. Windows that overlap are all counted [own]
unfoldable pub window_count : ℕ → (ℕ → Bool) → ℕ
window_count s line = count_below s (is_window s line)

-- The two by two modules whose top left one is in row `r` and column `c` are inside the symbol and have one colour
-- (ISO/IEC 18004:2015, 7.8.3.1, Table 11, block of modules in same colour)
unfoldable pub is_square_of_two : ℕ → (ℕ → ℕ → Bool) → ℕ → ℕ → Bool
is_square_of_two s dark r c =
    nat_lt (r + 1) s && nat_lt (c + 1) s
    && is_same (dark r c) (dark r (c + 1)) && is_same (dark r c) (dark (r + 1) c) && is_same (dark r c) (dark (r + 1) (c + 1))

-- The number of two by two squares of one colour. Squares that overlap are all counted [own]
unfoldable pub square_count : ℕ → (ℕ → ℕ → Bool) → ℕ
square_count s dark = places_passing s (is_square_of_two s dark)

-- The points for the share of dark modules, if `many` of the `s * s` modules are dark: 10 for each whole twentieth (5
-- percent) by which this share differs from a half (ISO/IEC 18004:2015, 7.8.3.1, Table 11, proportion of dark modules)
unfoldable pub dark_cost : ℕ → ℕ → ℕ
dark_cost s many = 10 * (abs_diff (20 * many) (10 * (s * s)) / (s * s))

-- A sum over all lines of the square, its rows and its columns. Each line adds the number that `f` gives for its
-- colours [own]
unfoldable pub over_lines : ℕ → (ℕ → ℕ → Bool) → ((ℕ → Bool) → ℕ) → ℕ
over_lines s dark f = sum_below s (λ r. f (dark r)) + sum_below s (λ c. f (λ r. dark r c))

-- The penalty, a sum of four numbers: the points for runs, 3 points for each two by two square of one colour, 40 points
-- for each window, and the points for the share of dark modules (ISO/IEC 18004:2015, 7.8.3.1, Table 11)
unfoldable pub penalty_of : ℕ → (ℕ → ℕ → Bool) → ℕ
penalty_of s dark = over_lines s dark (run_cost s) + 3 * square_count s dark + 40 * over_lines s dark (window_count s) + dark_cost s (places_passing s dark)
