-- What is kept of the rows above tells where five equal modules of a column are.
use Rattle.std.proofs.Common.{◌≡◌, ℕ, ◌+◌, ◌-◌, ◌<◌, ◌≤◌, ltb, Bool, true, false, ◌&&◌, ◌||◌, inl, inr, refl, ap, ◌∙◌, arith}
use Rattle.std.proofs.lemmas.Bool.{cases_lt, Decides.nat_tests}
use Rattle.qr_matrix.specs.{Sums.{count_below, sum_below}, Penalty.is_square_of_two, Steps.{begin_five, is_charged, is_near_five, joins_down, row_share, set_count, IsAbove, IsCountedTo}, Runs.{begins_five, place_cost}}
use Rattle.qr_matrix.proofs.lemmas.bit_row.SumLemmas.{count_below-cut, sum_below-cut, sum_below-more}
use Rattle.qr_matrix.proofs.lemmas.{rows.none-of, runs.{ColumnLemmas.{guarded-size, guarded-three}, RowLemmas.five-past}}

module _ (join : ℕ → Bool) (n : ℕ) (a b d e f x : Bool) (h : IsAbove join n a b d e f) (hx : x ≡ join n) where
  positive : ltb 0 (n + 1) ≡ true
  positive = grind (arith, nat_tests)

  one : ltb 1 (n + 1) ≡ ltb 0 n
  one = grind (arith, nat_tests)

  two : ltb 2 (n + 1) ≡ ltb 1 n
  two = grind (arith, nat_tests)

  three : ltb 3 (n + 1) ≡ ltb 2 n
  three = grind (arith, nat_tests)

  four : ltb 4 (n + 1) ≡ ltb 3 n
  four = grind (arith, nat_tests)

  -- three equal modules end in the next row
  pub three-next : (t : Bool) → t ≡ (x && a) → t ≡ (ltb 0 n && (join (n - 1) && join n))
  three-next t ht = search arith

  -- five equal modules end in the next row
  pub five-next : (t v : Bool) → t ≡ (x && a) → v ≡ (t && d) → v ≡ (ltb 2 n && begin_five join (n - 3))
  five-next t v ht hv = search (arith, three-next)

  -- the modules that cost a point
  pub near-next : (u v : Bool) → u ≡ ((v || e) || f) → v ≡ (ltb 2 n && begin_five join (n - 3)) → u ≡ (ltb 2 n && is_near_five join (n - 3))
  near-next u v hu hv =
      let m = n - 3 in
      let e1 : n - 4 ≡ m - 1 = omega arith in
      search (arith, nat_tests)

  -- what is kept of the rows above the row after the next
  pub above-next : (t v : Bool) → t ≡ (x && a) → v ≡ (t && d) → IsAbove join (n + 1) x t b v e
  above-next t v ht hv =
      let e1 : n ≡ n + 1 - 1 = omega arith in
      let e2 : n - 1 ≡ n + 1 - 2 = omega arith in
      let e3 : n - 2 ≡ n + 1 - 3 = omega arith in
      let e4 : n - 3 ≡ n + 1 - 4 = omega arith in
      let e5 : n - 4 ≡ n + 1 - 5 = omega arith in
      search (arith, nat_tests, positive, three-next, one, two, five-next, three, four)

five-column : (s : ℕ) (dark : ℕ → ℕ → Bool) (c r : ℕ) → begin_five (joins_down s dark c) r ≡ (ltb c s && begins_five s (λ i. dark i c) r)
unfolding begins_five
five-column s dark c r = search (arith, nat_tests)

-- the bits that are set for columns after n rows are the share of row n - 3, if there is one
pub share-next : (s : ℕ) (dark : ℕ → ℕ → Bool) (n : ℕ) (bit : ℕ → Bool) → s ≤ 192 → ((c : ℕ) → bit c ≡ (ltb 2 n && is_near_five (joins_down s dark c) (n - 3)))
    → sum_below (n + 1 - 3) (row_share s dark) ≡ sum_below (n - 3) (row_share s dark) + set_count bit
unfolding row_share is_charged
share-next s dark n bit l h = elim (cases_lt 2 n) [
  | inl k ↦
      let t : ltb 2 n ≡ true = grind (arith, nat_tests) in
      let e : n + 1 - 3 ≡ n - 3 + 1 = omega arith in
      search (arith, guarded-size, sum_below-more, five-column, guarded-three)
  | inr k ↦ search (arith, none-of)
]

-- no module of the last two rows costs a point for its column
share-none : (s : ℕ) (dark : ℕ → ℕ → Bool) (r : ℕ) → s - 2 ≤ r → row_share s dark r ≡ 0
unfolding row_share is_charged
share-none s dark r h = count_below-cut s 0 (λ c. is_charged s (λ i. dark i c) r) (λ _. false) (omega arith) (λ c _. none c) (λ _ _. refl)
  where
    all-false : (a b d p q : Bool) → a ≡ false → b ≡ false → (q ≡ true → d ≡ false) → ((a || (p && b)) || (q && d)) ≡ false
    all-false a b d p q ea eb ed = grind (arith, nat_tests)

    none : (c : ℕ) → is_charged s (λ i. dark i c) r ≡ false
    none c = all-false _ _ _ (ltb 0 r) (ltb 1 r) (five-past s (λ i. dark i c) r (omega arith)) (five-past s (λ i. dark i c) (r - 1) (omega arith)) (λ k. five-past s (λ i. dark i c) (r - 2) (let o : 1 < r = grind (arith, nat_tests) in omega arith))

-- after all rows, the five equal modules that end in the last row are all that is left to count
pub share-left : (s : ℕ) (dark : ℕ → ℕ → Bool) (bit : ℕ → Bool) → s ≤ 192 → ((c : ℕ) → bit c ≡ (ltb 4 s && begin_five (joins_down s dark c) (s - 5)))
    → sum_below (s - 3) (row_share s dark) + set_count bit ≡ sum_below s (row_share s dark)
share-left s dark bit l h =
    let last = share-next s dark s bit l (λ c. h c ∙ near c) in
    search (arith, sum_below-cut (s - 2) (s - (s - 2)) (row_share s dark) (share-none s dark))
  where
    only : (u v p q a b d : Bool) → (u ≡ true → a ≡ false) → (u ≡ true → b ≡ false) → v ≡ (u && q) → (v && d) ≡ (u && ((a || (p && b)) || (q && d)))
    only u v p q a b d ea eb ev = grind (arith, nat_tests)

    past : (c r : ℕ) → s ≤ r + 4 → begin_five (joins_down s dark c) r ≡ false
    past c r k = five-column s dark c r ∙ ap (λ z. ltb c s && z) (five-past s (λ i. dark i c) r k) ∙ drop (ltb c s)
      where
        drop : (x : Bool) → (x && false) ≡ false
        drop x = grind (arith, nat_tests)

    near : (c : ℕ) → (ltb 4 s && begin_five (joins_down s dark c) (s - 5)) ≡ (ltb 2 s && is_near_five (joins_down s dark c) (s - 3))
    near c =
        let e : s - 5 ≡ s - 3 - 2 = omega arith in
        let t : ltb 4 s ≡ (ltb 2 s && ltb 1 (s - 3)) = grind (arith, nat_tests) in
        ap (λ z. ltb 4 s && begin_five (joins_down s dark c) z) e
        ∙ only (ltb 2 s) (ltb 4 s) (ltb 0 (s - 3)) (ltb 1 (s - 3)) (begin_five (joins_down s dark c) (s - 3)) (begin_five (joins_down s dark c) (s - 3 - 1)) (begin_five (joins_down s dark c) (s - 3 - 2))
        (λ k. past c (s - 3) (omega arith)) (λ k. past c (s - 3 - 1) (omega arith)) t

-- what is counted after one more row
pub counted-next : (s : ℕ) (dark : ℕ → ℕ → Bool) (n runs squares a u q more many : ℕ) → IsCountedTo s dark n runs squares → a ≡ place_cost s (dark n)
    → sum_below (n + 1 - 3) (row_share s dark) ≡ sum_below (n - 3) (row_share s dark) + u → q ≡ count_below s (is_square_of_two s dark n) → a ≤ 192 → u ≤ 192 → q ≤ 192
    → more ≡ runs + (a + u) → many ≡ squares + q → IsCountedTo s dark (n + 1) more many
counted-next s dark n runs squares a u q more many h ha hu hq la lu lq em eq = search (arith, sum_below-more)
