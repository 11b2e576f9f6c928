-- The tests of the ratio 1:1:3:1:1 and of four light modules, made on whole bit rows at once.
use Rattle.qr_matrix.proofs.lemmas.bit_row.BoolLemmas.{and-false, false-and}
use Rattle.qr_matrix.proofs.lemmas.{bit_row.SumLemmas.{count_below-cut, sum_below-add, sum_below-more, sum_below-same, sum_below-swap}, rows.set_count-most}
use Rattle.qr_matrix.{proofs.lemmas.runs.{ColumnLemmas.guarded-size, RowLemmas.size-is}, specs.Grid.is_same}
use Rattle.qr_matrix.specs.Penalty.{finder_ratio, four_light, is_window, reads, window_count}
use Rattle.qr_matrix.specs.{Steps.{is_after_light, is_before_light, is_found, set_count, AreWindowsTo}, Sums.{count_below, sum_below}}
use Rattle.std.proofs.Common.{◌≡◌, ℕ, suc, ◌+◌, ◌<◌, ◌≤◌, List, [], ◌∷◌, ◌++◌, length, ltb, leb, Bool, true, false, not, ◌&&◌, ◌||◌, inl, inr, sym, ap, ◌∙◌, arith, zero, ◌-◌, cond, refl}
use Rattle.std.proofs.{Math.Bool.and_assoc, lemmas.Bool.{cases_lt, Decides.nat_tests}}

-- the colours of two lists in turn are those of the first, and then those of the second
reads-append : (line : ℕ → Bool) (c : ℕ) (xs ys : List Bool) → reads line c (xs ++ ys) ≡ (reads line c xs && reads line (c + length xs) ys)
reads-append line c [] ys = let e : c ≡ c + 0 = omega arith in ap (λ k. reads line k ys) e
reads-append line c (x ∷ xs) ys =
    let e : c + 1 + length xs ≡ c + suc (length xs) = omega arith in
    cc (reads-append line (c + 1) xs ys, and_assoc (is_same (line c) x) (reads line (c + 1) xs) (reads line (c + suc (length xs)) ys))

-- a window is the ratio and four light modules after or before it
pub window-is : (s : ℕ) (line : ℕ → Bool) (c : ℕ)
    → is_window s line c ≡ (leb (c + 11) s && ((reads line c finder_ratio && reads line (c + 7) four_light) || (reads line c four_light && reads line (c + 4) finder_ratio)))
unfolding is_window
window-is s line c = λ i. leb (c + 11) s && (reads-append line c finder_ratio four_light i || reads-append line c four_light finder_ratio i)

-- the seven tests of the ratio, in columns that pass the test u
pub ratio-read : (u : Bool) (line : ℕ → Bool) (c : ℕ)
    → (((((((u && line c) && not (line (c + 1))) && line (c + 2)) && line (c + 3)) && line (c + 4)) && not (line (c + 5))) && line (c + 6)) ≡ (u && reads line c finder_ratio)
ratio-read u line c =
    let e2 : c + 1 + 1 ≡ c + 2 = omega arith in
    let e3 : c + 2 + 1 ≡ c + 3 = omega arith in
    let e4 : c + 3 + 1 ≡ c + 4 = omega arith in
    let e5 : c + 4 + 1 ≡ c + 5 = omega arith in
    let e6 : c + 5 + 1 ≡ c + 6 = omega arith in
    rw (e2, e3, e4, e5, e6) (tests u (line c) (line (c + 1)) (line (c + 2)) (line (c + 3)) (line (c + 4)) (line (c + 5)) (line (c + 6)))
  where
    tests : (u a b d e f g h : Bool) → (((((((u && a) && not b) && d) && e) && f) && not g) && h)
        ≡ (u && (is_same a true && (is_same b false && (is_same d true && (is_same e true && (is_same f true && (is_same g false && (is_same h true && true))))))))
    tests u a b d e f g h = grind (arith, nat_tests)

-- the tests of four light modules
four-read : (line : ℕ → Bool) (c : ℕ) → ((not (line c) && not (line (c + 1))) && (not (line (c + 2)) && not (line (c + 3)))) ≡ reads line c four_light
four-read line c =
    let e2 : c + 1 + 1 ≡ c + 2 = omega arith in
    let e3 : c + 2 + 1 ≡ c + 3 = omega arith in
    rw (e2, e3) (tests (line c) (line (c + 1)) (line (c + 2)) (line (c + 3)))
  where
    tests : (a b d e : Bool) → ((not a && not b) && (not d && not e)) ≡ (is_same a false && (is_same b false && (is_same d false && (is_same e false && true))))
    tests a b d e = grind (arith, nat_tests)

-- one of four modules is dark unless all are light
pub dark-read : (line : ℕ → Bool) (c : ℕ) → (((line c || line (c + 1)) || line (c + 2)) || line (c + 3)) ≡ not (reads line c four_light)
dark-read line c = tests (line c) (line (c + 1)) (line (c + 2)) (line (c + 3)) ∙ ap not (four-read line c)
  where
    tests : (a b d e : Bool) → (((a || b) || d) || e) ≡ not ((not a && not b) && (not d && not e))
    tests a b d e = grind (arith, nat_tests)

-- ---- the windows of a row

-- in this module, `line` is a row of s modules, and `dark` and `light` are the tests for its dark and its light modules
module _ (s : ℕ) (line dark light : ℕ → Bool) (past : (m : ℕ) → s ≤ m → dark m ≡ false) (darks : (m : ℕ) → dark m ≡ line m)
    (lights : (m : ℕ) → light m ≡ (ltb m s && not (dark m))) where
  -- a module of the row is light just if it is not dark
  within : (m : ℕ) → m < s → light m ≡ not (line m)
  within m l = let t : ltb m s ≡ true = grind (arith, nat_tests) in lights m ∙ (λ i. t i && not (darks m i))

  -- the tests of the ratio
  pub ratio-row : (c : ℕ) → ((((((dark c && light (c + 1)) && dark (c + 2)) && dark (c + 3)) && dark (c + 4)) && light (c + 5)) && dark (c + 6))
      ≡ (leb (c + 7) s && reads line c finder_ratio)
  ratio-row c = elim (cases_lt s (c + 7)) [
    | inl k ↦
        let t : leb (c + 7) s ≡ false = grind (arith, nat_tests) in
        and-false _ (dark (c + 6)) (past (c + 6) (omega arith)) ∙ ap (λ z. z && reads line c finder_ratio) (sym t)
    | inr k ↦
        let t : leb (c + 7) s ≡ true = grind (arith, nat_tests) in
        (λ i. ((((((darks c i && within (c + 1) (omega arith) i) && darks (c + 2) i) && darks (c + 3) i) && darks (c + 4) i) && within (c + 5) (omega arith) i) && darks (c + 6) i))
        ∙ (ratio-read true line c ∙ ap (λ z. z && reads line c finder_ratio) (sym t))
  ]

  -- the tests of four light modules
  pub four-row : (c : ℕ) → ((light c && light (c + 1)) && (light (c + 2) && light (c + 3))) ≡ (leb (c + 4) s && reads line c four_light)
  four-row c = elim (cases_lt s (c + 4)) [
    | inl k ↦
        let t : leb (c + 4) s ≡ false = grind (arith, nat_tests) in
        let f : ltb (c + 3) s ≡ false = grind (arith, nat_tests) in
        let l : light (c + 3) ≡ false = lights (c + 3) ∙ ap (λ z. z && not (dark (c + 3))) f in
        and-false (light c && light (c + 1)) _ (and-false (light (c + 2)) (light (c + 3)) l) ∙ ap (λ z. z && reads line c four_light) (sym t)
    | inr k ↦
        let t : leb (c + 4) s ≡ true = grind (arith, nat_tests) in
        (λ i. (within c (omega arith) i && within (c + 1) (omega arith) i) && (within (c + 2) (omega arith) i && within (c + 3) (omega arith) i))
        ∙ (four-read line c ∙ ap (λ z. z && reads line c four_light) (sym t))
  ]

-- The windows of rows and columns, found and counted on bit rows.

-- in a row, the tests of the ratio before and after four light modules find the windows
pub window-bit : (s : ℕ) (line core four : ℕ → Bool) (c : ℕ) → ((m : ℕ) → core m ≡ (leb (m + 7) s && reads line m finder_ratio))
    → ((m : ℕ) → four m ≡ (leb (m + 4) s && reads line m four_light)) → ((core c && four (c + 7)) || (four c && core (c + 4))) ≡ is_window s line c
window-bit s line core four c cores fours =
    let seven : leb (c + 7 + 4) s ≡ leb (c + 11) s = ap (λ n. leb n s) (omega arith) in
    let four_more : leb (c + 4 + 7) s ≡ leb (c + 11) s = ap (λ n. leb n s) (omega arith) in
    (λ i. (cores c i && fours (c + 7) i) || (fours c i && cores (c + 4) i))
    ∙ rw (seven, four_more) (common (leb (c + 11) s) (leb (c + 7) s) (leb (c + 4) s) (reads line c finder_ratio) (reads line (c + 7) four_light) (reads line c four_light) (reads line (c + 4) finder_ratio) (fits-too 7 (omega arith)) (fits-too 4 (omega arith))
    ∙ sym (window-is s line c))
  where
    common : (u v w a b d e : Bool) → (u ≡ true → v ≡ true) → (u ≡ true → w ≡ true)
        → (((v && a) && (u && b)) || ((w && d) && (u && e))) ≡ (u && ((a && b) || (d && e)))
    common u v w a b d e p q = grind (arith, nat_tests)

    fits-too : (n : ℕ) → n ≤ 11 → leb (c + 11) s ≡ true → leb (c + n) s ≡ true
    fits-too n h e = grind (arith, nat_tests)

-- a bit row that has a bit set just where a window begins has as many set bits as there are windows
pub windows-row : (s : ℕ) (line : ℕ → Bool) (bit : ℕ → Bool) → s ≤ 192 → ((c : ℕ) → bit c ≡ is_window s line c) → set_count bit ≡ window_count s line
unfolding window_count is_window
windows-row s line bit l h = search (arith, size-is, false-and, nat_tests)

-- ---- windows of columns

-- the ratio before four light modules is a window, if eleven rows are left
pub before-bit : (s : ℕ) (line : ℕ → Bool) (r : ℕ) (u : Bool) → r + 11 ≤ s
    → ((u && reads line r finder_ratio) && not (not (reads line (r + 7) four_light))) ≡ (u && is_before_light s line r)
before-bit s line r u h = search arith

-- the ratio after four light modules is a window that is found in the last row of these, if seven rows are left after
-- it
pub after-bit : (s : ℕ) (line : ℕ → Bool) (r : ℕ) (u : Bool) → 3 ≤ r → r + 8 ≤ s
    → ((u && reads line (r + 1) finder_ratio) && not (not (reads line (r - 3) four_light))) ≡ (u && (ltb 2 r && is_after_light s line (r - 3)))
after-bit s line r u l h = search (arith, nat_tests)

-- the windows that are found in row r, if the bits of two tests of column c tell where those of the first kind and
-- those of the second kind are
pub found-bit : (s : ℕ) (line : ℕ → Bool) (r : ℕ) (u x y : Bool) → x ≡ (u && is_before_light s line r) → y ≡ (u && (ltb 2 r && is_after_light s line (r - 3))) → (x || y) ≡ (u && is_found s line r)
unfolding is_found
found-bit s line r u x y e f = search arith

-- nor is one found in the last seven rows, or in the first three of these ten
pub found-none : (s : ℕ) (line : ℕ → Bool) (r : ℕ) (u x : Bool) → s < r + 11 → (3 ≤ r → s < r + 8) → x ≡ false → x ≡ (u && is_found s line r)
unfolding is_found
found-none s line r u x h k e = search (arith, and-false, false-and, nat_tests)

-- the ratio begins with a dark module
dark-first : (s : ℕ) (line : ℕ → Bool) (r : ℕ) → is_before_light s line r ≡ true → line r ≡ true
dark-first s line r h = search arith

-- the first module of four light ones is light
light-first : (s : ℕ) (line : ℕ → Bool) (r : ℕ) → is_after_light s line r ≡ true → line r ≡ false
light-first s line r h = search arith

-- the last module of four light ones is light
light-last : (s : ℕ) (line : ℕ → Bool) (r : ℕ) → 3 ≤ r → is_after_light s line (r - 3) ≡ true → line r ≡ false
light-last s line r l h = search arith

-- two tests that exclude each other
either : (p q x : Bool) → (p ≡ true → x ≡ true) → (q ≡ true → x ≡ false) → cond (p || q) 1 0 ≡ cond p 1 0 + cond q 1 0
either p q x h k = grind (arith, nat_tests)

-- one more number that passes a test after the first three
later-more : (n : ℕ) (p : ℕ → Bool) → count_below (n + 1 - 3) p ≡ count_below (n - 3) p + cond (ltb 2 n && p (n - 3)) 1 0
later-more n p = search (arith, sum_below-more)

-- the windows that are found in the first n rows of a column are those of the first kind that begin there, and those of
-- the second kind that begin before the last three of these rows
found-below : (s : ℕ) (line : ℕ → Bool) (n : ℕ) → count_below n (is_found s line) ≡ count_below n (is_before_light s line) + count_below (n - 3) (is_after_light s line)
unfolding is_found
found-below s line zero = refl
found-below s line (suc n) =
    let rest = found-below s line n in
    let one = either (is_before_light s line n) (ltb 2 n && is_after_light s line (n - 3)) (line n) (dark-first s line n) light in
    search (arith, later-more n (is_after_light s line))
  where
    both : (a b : Bool) → (a && b) ≡ true → (a ≡ true) × (b ≡ true)
    both a b h = (grind (arith, nat_tests), grind (arith, nat_tests))

    light : (ltb 2 n && is_after_light s line (n - 3)) ≡ true → line n ≡ false
    light h =
        let k = both (ltb 2 n) (is_after_light s line (n - 3)) h in
        let l : ltb 2 n ≡ true = k.0 in
        let m : 2 < n = grind (arith, nat_tests) in
        light-last s line n (omega arith) k.1

-- in a whole column all its windows are found
found-all : (s : ℕ) (line : ℕ → Bool) → count_below s (is_found s line) ≡ window_count s line
unfolding window_count
found-all s line =
    let cut = count_below-cut s (s - 3) (is_after_light s line) (is_after_light s line) (omega arith) (λ c _. refl) (λ c h. false-and (leb (c + 11) s) _ (past c h)) in
    let kinds = sum_below-same s (λ c. cond (is_window s line c) 1 0) (λ c. cond (is_before_light s line c) 1 0 + cond (is_after_light s line c) 1 0) (λ c _. kind c) in
    let sum = sum_below-add s (λ c. cond (is_before_light s line c) 1 0) (λ c. cond (is_after_light s line c) 1 0) in
    omega (arith, found-below s line s)
  where
    past : (c : ℕ) → s - 3 ≤ c → leb (c + 11) s ≡ false
    past c h = let k : s < c + 11 = omega arith in grind (arith, nat_tests)

    common : (t a b d e : Bool) → (t && ((a && b) || (d && e))) ≡ ((t && (a && b)) || (t && (d && e)))
    common t a b d e = grind (arith, nat_tests)

    kind : (c : ℕ) → cond (is_window s line c) 1 0 ≡ cond (is_before_light s line c) 1 0 + cond (is_after_light s line c) 1 0
    kind c =
        ap (λ z. cond z 1 0) (window-is s line c ∙ common (leb (c + 11) s) (reads line c finder_ratio) (reads line (c + 7) four_light) (reads line c four_light) (reads line (c + 4) finder_ratio))
        ∙ either (is_before_light s line c) (is_after_light s line c) (line c) (dark-first s line c) (light-first s line c)

-- the windows of columns that are found row by row are those counted column by column
pub found-are-columns : (s : ℕ) (dark : ℕ → ℕ → Bool) → sum_below s (λ r. count_below s (λ c. is_found s (λ i. dark i c) r)) ≡ sum_below s (λ c. window_count s (λ r. dark r c))
found-are-columns s dark =
    sum_below-swap s s (λ r c. cond (is_found s (λ i. dark i c) r) 1 0)
    ∙ sum_below-same s (λ c. count_below s (is_found s (λ i. dark i c))) (λ c. window_count s (λ r. dark r c)) (λ c _. found-all s (λ r. dark r c))

-- what is counted after one more row
pub windows-next : (s : ℕ) (dark : ℕ → ℕ → Bool) (n windows : ℕ) (across upright : ℕ → Bool) (more : ℕ) → s ≤ 192 → AreWindowsTo s dark n windows
    → ((c : ℕ) → across c ≡ is_window s (dark n) c) → ((c : ℕ) → upright c ≡ (ltb c s && is_found s (λ i. dark i c) n))
    → more ≡ windows + (set_count across + set_count upright) → AreWindowsTo s dark (n + 1) more
windows-next s dark n windows across upright more l h ha hu e = search (arith, windows-row, sum_below-more, set_count-most, guarded-size)
