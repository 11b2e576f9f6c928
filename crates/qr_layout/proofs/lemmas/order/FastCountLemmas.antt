-- The number of modules of the region, computed: for each row only the rectangles that meet the row are checked.
use Rattle.qr_layout.{proofs.lemmas.{alignment.{region-taken, below}, order.CountLemmas.{sum_below, sum_below-same, places-sum}}, specs.Alignment.centres_of}
use Rattle.qr_layout.specs.{Order.places_passing, Rectangles.is_in_rectangle, Region.is_in_region, Steps.Rectangles.taken_rectangles}
use Rattle.qr_layout.specs.{Version.{total_codewords_of, remainder_bits_of, module_count_of, side_of}, declared.region.Rectangle.Rectangle}
use Rattle.std.proofs.Common.{◌≡◌, ℕ, zero, suc, ◌+◌, ◌-◌, ◌<◌, ◌≤◌, min, max, Bool, true, false, not, ◌&&◌, cond, eqb, ltb, leb, List, [], ◌∷◌, refl, ap, ◌∙◌, inl, inr, arith}
use Rattle.std.proofs.{Math.Nat.{min-eq_left, min-eq_right, max-eq_left, max-eq_right}, lemmas.Bool.{cases_lt, Decides.nat_tests}}
use Rattle.std.specs.List.{list_any, filter}

-- the row goes through the rectangle
abbrev pub is_in_rows : ℕ → Rectangle → Bool
is_in_rows r b = elim (leb b.top r) [ true ↦ ltb r b.bottom | false ↦ false ]

-- the column goes through the rectangle
abbrev pub is_in_columns : ℕ → Rectangle → Bool
is_in_columns c b = leb b.left c && ltb c b.right

-- whether a column of a row is in none of the row's rectangles, as a number
abbrev is_free : List Rectangle → ℕ → ℕ
is_free bs c = cond (not (list_any (is_in_columns c) bs)) 1 0

-- the number of columns of a row from one column to before another that are in none of the row's rectangles
abbrev pub free_between : List Rectangle → ℕ → ℕ → ℕ
free_between [] lo hi = hi - lo
free_between (b ∷ bs) lo hi = elim (leb hi lo) [
  | true ↦ 0
  | false ↦ free_between bs lo (min hi b.left) + free_between bs (max lo (max b.left b.right)) hi
]

-- the number of places of a square that are in no rectangle, row by row
abbrev pub free_of : ℕ → List Rectangle → ℕ
free_of s bs = sum_below s (λ r. free_between (filter (is_in_rows r) bs) 0 s)

-- ---- the columns of a row

-- a sum of terms that a second one has too, but for those from l to before r, which it has not
module _ (f g : ℕ → ℕ) (l r : ℕ) (before : (c : ℕ) → c < l → g c ≡ f c) (none : (c : ℕ) → l ≤ c → c < r → g c ≡ 0) (after : (c : ℕ) → r ≤ c → g c ≡ f c) where
  -- the sum up to a column from l to r is that of the second one up to l
  sum-inside : (k : ℕ) → l ≤ k → k ≤ r → sum_below k g ≡ sum_below l f
  sum-inside zero h m = let e : l ≡ 0 = omega arith in rw e refl
  sum-inside (suc k) h m = elim (cases_lt k l) [
    | inl n ↦ let e : l ≡ suc k = omega arith in search (arith, sum_below-same)
    | inr n ↦ search (arith, sum-inside k n (omega arith))
  ]

  -- the sum up to a column from r on lacks the terms of the second one from l to before r
  sum-after : (k : ℕ) → l ≤ r → r ≤ k → sum_below k g + sum_below r f ≡ sum_below l f + sum_below k f
  sum-after zero h m = search arith
  sum-after (suc k) h m = elim (cases_lt k r) [
    | inl n ↦ let e : r ≡ suc k = omega arith in cc (sum-inside (suc k) (omega arith) (omega arith))
    | inr n ↦ let e = after k n in let d = sum-after k h n in omega arith
  ]

-- p' columns are free before column c without those from l to before r; with these, p are free before c, pl before l
-- and pr before r
record IsWithout (l r pl pr c p p' : ℕ) : Type 0 where
  pub before : c ≤ l → p' ≡ p
  pub inside : l ≤ c → c ≤ r → p' ≡ pl
  pub after : r ≤ c → p' + pr ≡ pl + p

-- a columns are free from lo to before the first of hi and l; p, q and pl are free before lo, hi and l
record IsLeftPart (lo hi l p q pl a : ℕ) : Type 0 where
  pub whole : hi ≤ l → a + p ≡ q
  pub part : lo ≤ l → l ≤ hi → a + p ≡ pl
  pub none : l ≤ lo → a ≡ 0

-- b columns are free from the last of lo and r to before hi; p, q and pr are free before lo, hi and r
record IsRightPart (lo hi r p q pr b : ℕ) : Type 0 where
  pub none : hi ≤ r → b ≡ 0
  pub part : lo ≤ r → r ≤ hi → b + pr ≡ q
  pub whole : r ≤ lo → b + p ≡ q

-- what is counted between two columns, from what is counted before and after the rectangle from l to before r
between-step : (lo hi l r pl pr p q p' q' a b : ℕ) → lo < hi → l ≤ r → IsWithout l r pl pr lo p p' → IsWithout l r pl pr hi q q'
    → IsLeftPart lo hi l p q pl a → IsRightPart lo hi r p q pr b → a + b + p' ≡ q'
between-step lo hi l r pl pr p q p' q' a b u v low high left right = search arith

-- columns before and after a rectangle are free if they are without it, and its own are not
free-before : (b : Rectangle) (bs : List Rectangle) (c : ℕ) → c < b.left → is_free (b ∷ bs) c ≡ is_free bs c
free-before b bs c h = search arith

free-inside : (b : Rectangle) (bs : List Rectangle) (c : ℕ) → b.left ≤ c → c < max b.left b.right → is_free (b ∷ bs) c ≡ 0
free-inside b bs c h k = search arith

free-after : (b : Rectangle) (bs : List Rectangle) (c : ℕ) → max b.left b.right ≤ c → is_free (b ∷ bs) c ≡ is_free bs c
free-after b bs c h = search arith

-- nothing is between a column and an earlier one
between-none : (bs : List Rectangle) (lo hi : ℕ) → hi ≤ lo → free_between bs lo hi ≡ 0
between-none [] lo hi h = omega arith
between-none (b ∷ bs) lo hi h = search arith

-- all columns are free
all-free : (k : ℕ) → sum_below k (is_free []) ≡ k
all-free zero = refl
all-free (suc k) = let e = all-free k in omega arith

-- the free columns between two, counted one by one
between-counts : (bs : List Rectangle) (lo hi : ℕ) → lo ≤ hi → free_between bs lo hi + sum_below lo (is_free bs) ≡ sum_below hi (is_free bs)
between-counts [] lo hi h = let e = all-free lo in let d = all-free hi in omega arith
between-counts (b ∷ bs) lo hi h = elim (cases_lt lo hi) [
  | inr n ↦ search (arith, between-none)
  | inl n ↦
      let l = b.left in
      let r = max b.left b.right in
      let f = is_free bs in
      let g = is_free (b ∷ bs) in
      let x : leb hi lo ≡ false = grind (arith, nat_tests) in
      let without : (c : ℕ) → IsWithout l r (sum_below l f) (sum_below r f) c (sum_below c f) (sum_below c g) = λ c. record {
        before = search (arith, sum_below-same, free-before);
        inside = search (arith, sum-inside, free-before, free-inside, free-after);
        after = λ i. sum-after f g l r (free-before b bs) (free-inside b bs) (free-after b bs) c (omega arith) i;
      } in
      rw (x, free_between) (between-step lo hi l r (sum_below l f) (sum_below r f) (sum_below lo f) (sum_below hi f) (sum_below lo g) (sum_below hi g) (free_between bs lo (min hi l)) (free_between bs (max lo r) hi) n (omega arith) (without lo) (without hi) (record {
        whole = λ i. rw (min-eq_left i) (between-counts bs lo hi h);
        part = λ i j. rw (min-eq_right j) (between-counts bs lo l i);
        none = λ i. between-none bs lo (min hi l) (omega arith);
      }) (record {
        none = λ i. between-none bs (max lo r) hi (omega arith);
        part = λ i j. rw (max-eq_right i) (between-counts bs r hi j);
        whole = λ i. rw (max-eq_left i) (between-counts bs lo hi h);
      }))
]

-- only the rectangles that the row goes through can contain a place of it
any-filter : (r c : ℕ) (bs : List Rectangle) → list_any (is_in_rectangle r c) bs ≡ list_any (is_in_columns c) (filter (is_in_rows r) bs)
any-filter r c [] = refl
any-filter r c (b ∷ bs) = grind (arith, any-filter r c bs)

-- a place inside the square is in the region if no rectangle of its row contains it
region-free : (v r c : ℕ) → 1 ≤ v → v ≤ 40 → r < side_of v → c < side_of v → is_in_region v r c ≡ not (list_any (is_in_columns c) (filter (is_in_rows r) (taken_rectangles v)))
region-free v r c l m h k = search (arith, region-taken, any-filter)

-- the places of the region, counted row by row
pub region-count : (v : ℕ) → 1 ≤ v → v ≤ 40 → places_passing (side_of v) (is_in_region v) ≡ free_of (side_of v) (taken_rectangles v)
region-count v l m = places-sum (side_of v) (is_in_region v) ∙ sum_below-same (side_of v) _ _ (λ r h.
    let e : sum_below (side_of v) (λ c. cond (is_in_region v r c) 1 0) ≡ sum_below (side_of v) (is_free (filter (is_in_rows r) (taken_rectangles v))) = sum_below-same (side_of v) _ _ (λ c k. ap (λ z. cond z 1 0) (region-free v r c l m h k)) in
    search (arith, between-counts))

-- the count of one version is what its codewords and remainder bits need
abbrev pub agrees : ℕ → Bool
agrees v = eqb (free_of (side_of v) (taken_rectangles v)) (module_count_of v)

-- the forty counts, computed
pub agrees-40 : below 40 (λ i. agrees (i + 1)) ≡ true
unfolding centres_of total_codewords_of remainder_bits_of
agrees-40 = refl
