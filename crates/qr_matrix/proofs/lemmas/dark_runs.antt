-- The columns of a row at which the colour changes, and the end of a run of one colour.
use Rattle.qr_matrix.{proofs.lemmas.bit_row.BoolLemmas.or-false, specs.{DarkRuns.AreDarkRuns, Grid.{Grid, colour, is_same}, Runs.IsRunEnd}}
use Rattle.qr_matrix.specs.{Steps.{is_change, columns_passing, runs_between}, declared.dark_runs.Run.Run}
use Rattle.std.proofs.Common.{◌≡◌, ℕ, zero, suc, ◌+◌, ◌-◌, ◌<◌, ◌≤◌, min, ltb, ◌&&◌, not, Bool, true, false, sym, ap, ◌∙◌, arith, List, ◌∷◌, leb, refl, ◌⊎◌, inl, inr}
use Rattle.std.proofs.lemmas.{Bool.{cases_lt, cases_Bool, Decides.nat_tests}, List.{Elements.{All-cons, All-head, All-tail, All-weaker}, Folds.list_any_none}}
use Rattle.std.specs.List.{All, AllPairs, list_any}

-- if the colour does not change at place c + 1, this place has the colour of place c
kept : (line : ℕ → Bool) (c : ℕ) → is_change line (suc c) ≡ false → line (suc c) ≡ line c
unfolding is_change
kept line c e = search (arith, nat_tests)

-- if the colour changes at place c + 1, this place has the other colour than place c
changed : (line : ℕ → Bool) (c : ℕ) → is_change line (suc c) ≡ true → line (suc c) ≡ not (line c)
unfolding is_change
changed line c e = search (arith, nat_tests)

-- if the colour does not change at any place after a, up to a + d, then place a + d has the colour of place a
pub steady : (line : ℕ → Bool) (a d : ℕ) → ((c : ℕ) → a < c → c ≤ a + d → is_change line c ≡ false) → line (a + d) ≡ line a
steady line a zero none = let e : a + 0 ≡ a = omega arith in ap line e
steady line a (suc d) none =
    let e : a + suc d ≡ suc (a + d) = omega arith in
    ap line e ∙ kept line (a + d) (none (suc (a + d)) (omega arith) (omega arith)) ∙ steady line a d (λ c l m. none c l (omega arith))

-- if the colour does not change at any place after a, up to b, then place b has the colour of place a
steady-to : (line : ℕ → Bool) (a b : ℕ) → a ≤ b → ((c : ℕ) → a < c → c ≤ b → is_change line c ≡ false) → line b ≡ line a
steady-to line a b le none =
    let e : a + (b - a) ≡ b = omega arith in
    search (arith, steady)

-- if the conjunction of a and b is true, then a and b are true
both : (a b : Bool) → (a && b) ≡ true → (a ≡ true) × (b ≡ true)
both a b e = grind (arith, nat_tests)

-- f is the first place that passes, or 192 if none before passes
pub record IsFirst (passes : ℕ → Bool) (f : ℕ) : Type 0 where
  pub before : (c : ℕ) → c < f → passes c ≡ false
  pub here : f < 192 → passes f ≡ true

-- a run of equal modules from `col` on ends at the first change after `col`, or at the side if there is none
pub run-end-is : (g : Grid) (row col f end : ℕ) (later : ℕ → Bool) → col < g.side → g.side ≤ 177
    → ((c : ℕ) → c < 192 → later c ≡ (is_change (colour g row) c && not (ltb c (col + 1))))
    → IsFirst later f → end ≡ min f g.side → IsRunEnd g row col end
run-end-is g row col f end later l s is first e =
    let before = first.before in
    let here = first.here in
    let stays : (c : ℕ) → col < c → c < end → is_change (colour g row) c ≡ false = search (arith, nat_tests) in
    let after : col < end = search arith in
    let same : (c : ℕ) → col ≤ c → c < end → colour g row c ≡ colour g row col =
    λ c k m. steady-to (colour g row) col c k (λ i a b. stays i a (omega arith)) in
    record {
      after = after;
      within = omega arith;
      same = same;
      differs = λ k h.
          let n : end ≡ suc (end - 1) = omega arith in
          let t : is_change (colour g row) end ≡ true = search (arith, both) in
          let o = changed (colour g row) (end - 1) (ap (is_change (colour g row)) (sym n) ∙ t) in
          search arith;
    }

-- The runs of dark modules of a row, one after the other.

-- the runs of dark modules of the row from column `col` on
pub record AreRunsFrom (g : Grid) (row col : ℕ) (runs : List Run) : Type 0 where
  pub after : All (λ run. col ≤ run.start) runs
  pub within : All (λ run. (run.start < run.end) × (run.end ≤ g.side)) runs
  pub apart : AllPairs (λ a b. a.end < b.start) runs
  pub dark : (c : ℕ) → col ≤ c → colour g row c ≡ list_any (λ run. leb run.start c && ltb c run.end) runs

-- a column before all runs is in none
before-runs : (c : ℕ) (runs : List Run) → All (λ run. c + 1 ≤ run.start) runs → list_any (λ run. leb run.start c && ltb c run.end) runs ≡ false
before-runs c runs later = search (arith, list_any_none, All-weaker)

-- a column before or after a run is not in it
not-in : (start end c : ℕ) → (c < start) ⊎ (end ≤ c) → (leb start c && ltb c end) ≡ false
not-in start end c o = grind (arith, nat_tests)

-- ---- of runs from a column on, the first run and the others

-- in this module, `run` and `runs` are the runs from column `col` on
module _ (g : Grid) (row col : ℕ) (run : Run) (runs : List Run) (are : AreRunsFrom g row col (run ∷ runs)) where
  -- the other runs begin after a light module
  others-after : All (λ other. run.end + 1 ≤ other.start) runs
  others-after k d l = let a = are.apart 0 (suc k) d (omega arith) (omega arith) in omega arith

  -- `run` begins at column `col` or after it, and lies within the row
  pub run-in : (col ≤ run.start) × (run.start < run.end) × (run.end ≤ g.side)
  run-in = search (arith, All-head)

  -- up to the end of `run`, the modules of `run` alone are dark
  pub run-colours : (c : ℕ) → col ≤ c → c ≤ run.end → colour g row c ≡ (leb run.start c && ltb c run.end)
  run-colours c l m = search (arith, before-runs, All-weaker, others-after, or-false)

  -- `runs` are the runs from the end of `run` on
  pub other-runs : AreRunsFrom g row run.end runs
  other-runs =
      let w = run-in in
      record {
        after = search (arith, All-weaker, others-after);
        within = search (arith, All-tail);
        apart = λ i j d l m. are.apart (suc i) (suc j) d (omega arith) (omega arith);
        dark = search (arith, not-in);
      }

-- ---- the runs between the changes of a row

-- runs from the column after a light module on are the runs from this module on
light-first : (g : Grid) (row k : ℕ) (runs : List Run) → colour g row k ≡ false → AreRunsFrom g row (k + 1) runs → AreRunsFrom g row k runs
light-first g row k runs light are = search (arith, All-weaker, before-runs)

-- dark modules from column a to before a light module at k are a run before the runs after k
dark-first : (g : Grid) (row a k : ℕ) (runs : List Run) → a < k → k ≤ g.side → ((c : ℕ) → a ≤ c → c < k → colour g row c ≡ true)
    → colour g row k ≡ false → AreRunsFrom g row (k + 1) runs → AreRunsFrom g row a (record { start = a; end = k } ∷ runs)
dark-first g row a k runs l m dark light are = record {
  after = search (arith, All-cons, All-weaker);
  within = search (arith, All-cons);
  apart = apart;
  dark = λ c h. elim (cases_lt c k) [
    | inl n ↦ search arith
    | inr n ↦ rw (not-in a k c (inr n)) ((light-first g row k runs light are).dark c n)
  ];
}
  where
    apart : AllPairs (λ x y. x.end < y.start) (record { start = a; end = k } ∷ runs)
    apart i zero d p q = absurd (omega arith)
    apart zero (suc j) d p q = let s = are.after j d (omega arith) in omega arith
    apart (suc i) (suc j) d p q = are.apart i j d (omega arith) (omega arith)

-- in this module, `old` is true exactly at the changes of the row
module _ (g : Grid) (row : ℕ) (few : g.side ≤ 177) (past : (c : ℕ) → g.side ≤ c → colour g row c ≡ false) (old : ℕ → Bool)
    (is : (c : ℕ) → c < 192 → old c ≡ is_change (colour g row) c) where
  -- whether the colour changes at column k, where its module has the colour x and the module before it the colour y
  turns : (k : ℕ) (x y : Bool) → k < 192 → colour g row k ≡ x → (ltb 0 k && colour g row (k - 1)) ≡ y → old k ≡ not (is_same x y)
  unfolding is_change
  turns k x y l p q = is k l ∙ (λ i. not (is_same (p i) (q i)))

  -- the module before column k + 1 is the one at k
  one-before : (k : ℕ) → (ltb 0 (k + 1) && colour g row (k + 1 - 1)) ≡ colour g row k
  one-before k = search arith

  -- a column after a dark module is at most the side
  within-side : (k : ℕ) → 0 < k → colour g row (k - 1) ≡ true → k ≤ g.side
  within-side k l d = search arith

  -- the runs between the changes from k on are the runs from k on; if a to k - 1 are dark, the first begins at a
  runs-from : (n k : ℕ) → k + n ≡ 192
      → ((ltb 0 k && colour g row (k - 1)) ≡ false → AreRunsFrom g row k (runs_between (columns_passing old k n)))
      × ((a : ℕ) → a < k → ((c : ℕ) → a ≤ c → c < k → colour g row c ≡ true) → AreRunsFrom g row a (runs_between (a ∷ columns_passing old k n)))
  unfolding columns_passing
  runs-from zero k e = (
    λ light. record {
      after = λ j d l. absurd (omega arith);
      within = λ j d l. absurd (omega arith);
      apart = λ i j d l m. absurd (omega arith);
      dark = λ c l. past c (omega arith);
    },
    λ a l dark. absurd (let s = within-side k (omega arith) (dark (k - 1) (omega arith) (omega arith)) in omega arith),
  )
  runs-from (suc n) k e =
      let next = runs-from n (k + 1) (omega arith) in (
        λ light. elim (cases_Bool (colour g row k)) [
          | inl d ↦ rw (turns k true false (omega arith) d light)
              (next.1 k (omega arith) (λ c l m. let s : c ≡ k = omega arith in ap (colour g row) s ∙ d))
          | inr d ↦ rw (turns k false false (omega arith) d light) (light-first g row k _ d (next.0 (one-before k ∙ d)))
        ],
        λ a l dark.
            let before : (ltb 0 k && colour g row (k - 1)) ≡ true = search arith in
            elim (cases_Bool (colour g row k)) [
              | inl d ↦ rw (turns k true true (omega arith) d before) (next.1 a (omega arith) (search arith))
              | inr d ↦ rw (turns k false true (omega arith) d before)
                  (dark-first g row a k _ l (within-side k (omega arith) (dark (k - 1) (omega arith) (omega arith))) dark d (next.0 (one-before k ∙ d)))
            ],
      )

  -- the runs between all changes are the runs of the row
  pub runs-of-row : AreDarkRuns g row (runs_between (columns_passing old 0 192))
  runs-of-row =
      let all = (runs-from 192 0 (omega arith)).0 refl in
      search arith

-- the runs of the row are its runs from the first column on
pub all-runs : (g : Grid) (row : ℕ) (runs : List Run) → AreDarkRuns g row runs → AreRunsFrom g row 0 runs
all-runs g row runs are = search arith
